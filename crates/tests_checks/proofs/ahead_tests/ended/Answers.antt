use Rattle.tests_checks.proofs.Nodes.{distinct}
use Rattle.tests_checks.proofs.ahead_tests.ended.Goals as goal

pub start_ahead-requires : goal.start_ahead-requires
start_ahead-requires c = record { distinct = distinct }
