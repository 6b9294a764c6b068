use Rattle.tests_served.proofs.Ten.{distinct}
use Rattle.tests_served.proofs.files.begun_put.Goals as goal

pub start-requires : goal.start-requires
start-requires c = record { distinct = distinct }
