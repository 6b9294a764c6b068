use Rattle.std.specs.List.{IsDistinct}
use Rattle.tests_uploads.proofs.windows_tests.begun_ahead.Goals as goal

pub start-requires : goal.start-requires
unfolding IsDistinct
start-requires c = record { distinct = (tt, tt) }
