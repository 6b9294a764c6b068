use Rattle.std.proofs.Common.{refl}
use Rattle.std.specs.List.{IsDistinct}
use Rattle.tests_download_parts.proofs.choices_tests.told.Goals as goal

pub begin-requires : goal.begin-requires
unfolding IsDistinct
begin-requires c = record { distinct = ((refl, tt), (tt, tt)) }
