use Rattle.std.proofs.Common.{refl}
use Rattle.std.specs.Prelude.{is_some}
use Rattle.grid_repairs.specs.Checks.{verify_of}
use Rattle.grid_surveys.proofs.LookLemmas.{check_seen}
use Rattle.grid_surveys.proofs.looking.check_one.Goals as goal

pub returns-in-Some-clause-seen : goal.returns-in-Some-clause-seen
returns-in-Some-clause-seen g c = check_seen _ c.args.words.now (is_some c.args.reading.now) (verify_of c.args.cap.now) c.in_ok-report.field-0 _ _ c.in_ok-report.ensures.found c.in-Some.is refl

pub returns-in-None-clause-seen : goal.returns-in-None-clause-seen
returns-in-None-clause-seen g c = check_seen _ c.args.words.now (is_some c.args.reading.now) (verify_of c.args.cap.now) c.in_ok-report.field-0 _ _ c.in_ok-report.ensures.found c.in-None.is refl
