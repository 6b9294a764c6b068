use Rattle.grid_repairs.proofs.Told.{repair_told}
use Rattle.grid_repairs.proofs.repairing.repair.Goals as goal

pub returns-in-Ok : goal.returns-in-Ok
returns-in-Ok g c = repair_told _ c.args.words.now c.in_ok-read_cap.field-0 c.verify_cap.result c.in-Some.cap c.in-Ok.stored
    ((c.read_cap.ensures c.in_ok-read_cap.field-0).0 c.in_ok-read_cap.was) c.verify_cap.ensures c.in-Some.is c.in-Ok.ensures.repaired c.told_outcome.result c.told_outcome.ensures.told c.told_outcome.ensures.status
