use Rattle.std.proofs.Common.{refl}
use Rattle.std.specs.List.{IsDistinct}
use Rattle.tests_uploads.proofs.placement_tests.plans_where_nothing_is_held.Goals as goal

pub place-requires-clause-distinct : goal.place-requires-clause-distinct
unfolding IsDistinct
place-requires-clause-distinct g c = ((refl, (refl, tt)), ((refl, tt), (tt, tt)))

pub place-requires-2-clause-distinct : goal.place-requires-2-clause-distinct
unfolding IsDistinct
place-requires-2-clause-distinct g c = ((refl, (refl, tt)), ((refl, tt), (tt, tt)))
