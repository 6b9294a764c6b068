use Rattle.std.specs.List.{IsDistinct}
use Rattle.tests_streaming.proofs.upload_tests.upload_ends.Goals as goal

pub start-requires : goal.start-requires
unfolding IsDistinct
start-requires g c = record { distinct = (tt, tt) }
