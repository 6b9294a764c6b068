use Rattle.std.proofs.Common.{refl}
use Rattle.std.specs.List.{IsDistinct}
use Rattle.tests_uploads.proofs.upload_rounds_tests.goes_past_junk.Goals as goal

pub begun_one-requires : goal.begun_one-requires
unfolding IsDistinct
begun_one-requires c = (
  (refl, tt),
  (tt, tt),
)
