use Rattle.std.proofs.Common.{refl}
use Rattle.std.specs.Prelude.{is_some}
use Rattle.grid_repairs.specs.Checks.{verify_of}
use Rattle.grid_surveys.proofs.LookLemmas.{repair_seen}
use Rattle.grid_surveys.proofs.looking.repair_one.Goals as goal

pub returns-in-Some-clause-seen : goal.returns-in-Some-clause-seen
returns-in-Some-clause-seen g c = repair_seen _ c.args.words.now (is_some c.args.reading.now) (is_some c.args.writing.now) (verify_of c.args.cap.now) c.in_ok-stored.field-0 _ _ c.in_ok-stored.ensures.repaired c.in-Some.is refl

pub returns-in-None-clause-seen : goal.returns-in-None-clause-seen
returns-in-None-clause-seen g c = repair_seen _ c.args.words.now (is_some c.args.reading.now) (is_some c.args.writing.now) (verify_of c.args.cap.now) c.in_ok-stored.field-0 _ _ c.in_ok-stored.ensures.repaired c.in-None.is refl
