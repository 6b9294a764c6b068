use Rattle.tests_checks.proofs.Nodes.{distinct}
use Rattle.tests_checks.proofs.checker_tests.begun.Goals as goal

pub start_keeping-requires : goal.start_keeping-requires
start_keeping-requires c = record { distinct = distinct }

pub start-requires : goal.start-requires
start-requires c = record { distinct = distinct }
