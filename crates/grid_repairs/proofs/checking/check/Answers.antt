use Rattle.grid_repairs.proofs.Told.{check_told}
use Rattle.grid_repairs.proofs.checking.check.Goals as goal

pub returns : goal.returns
returns g c = check_told _ c.args.words.now c.in_ok-read_cap.field-0 c.verify_cap.result c.in-Some.cap c.in_ok-report.report c.total-total.result
    ((c.read_cap.ensures c.in_ok-read_cap.field-0).0 c.in_ok-read_cap.was) c.verify_cap.ensures c.in-Some.is c.total-total.ensures.value c.in_ok-report.ensures.found c.told_outcome.result c.told_outcome.ensures.told c.told_outcome.ensures.status
