use Rattle.std.specs.List.{IsDistinct}
use Rattle.tests_uploads.proofs.upload_core_tests.ends_without_servers.Goals as goal

pub begun_at-requires : goal.begun_at-requires
unfolding IsDistinct
begun_at-requires g c = tt
