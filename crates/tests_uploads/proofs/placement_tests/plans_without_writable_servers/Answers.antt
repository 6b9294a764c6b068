use Rattle.std.specs.List.{IsDistinct}
use Rattle.tests_uploads.proofs.placement_tests.plans_without_writable_servers.Goals as goal

pub place-requires-clause-distinct : goal.place-requires-clause-distinct
unfolding IsDistinct
place-requires-clause-distinct g c = (tt, tt)

pub place-requires-2-clause-distinct : goal.place-requires-2-clause-distinct
unfolding IsDistinct
place-requires-2-clause-distinct g c = (tt, tt)
