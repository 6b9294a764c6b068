use Rattle.std.specs.List.{IsDistinct}
use Rattle.tests_checks.proofs.checker_tests.without_servers.Goals as goal

pub start_keeping-requires : goal.start_keeping-requires
unfolding IsDistinct
start_keeping-requires c = record { distinct = tt }
