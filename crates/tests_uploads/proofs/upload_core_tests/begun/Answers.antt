use Rattle.std.proofs.Common.{refl}
use Rattle.std.specs.List.{IsDistinct}
use Rattle.tests_uploads.proofs.upload_core_tests.begun.Goals as goal

pub begun_at-requires : goal.begun_at-requires
unfolding IsDistinct
begun_at-requires g =
    ((refl, (refl, (refl, tt))), ((refl, (refl, tt)), ((refl, tt), (tt, tt))))
