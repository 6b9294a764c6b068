use Rattle.std.specs.List.{IsDistinct}
use Rattle.tests_uploads.proofs.upload_rounds_tests.close_is_sent_again.Goals as goal

pub begun_one-requires : goal.begun_one-requires
unfolding IsDistinct
begun_one-requires c =
    (tt, tt)
