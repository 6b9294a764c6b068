use Rattle.tests_served.proofs.Ten.{distinct}
use Rattle.tests_served.proofs.files.get.Goals as goal

pub start-requires : goal.start-requires
start-requires g c = record { distinct = distinct }
