use Rattle.std.proofs.Common.{IfOk, IfSome, List, ℕ, ap, subst, sym}
use Rattle.grid_servers.specs.Grids.{grid_calls}
use Rattle.grid_shares.specs.Standing.{WereOpened}
use Rattle.grid_repairs.specs.Checks.{WereChecked, verify_of}
use Rattle.grid_surveys.specs.LookEnds.{grid_of, task_of}
use Rattle.grid_surveys.specs.Looks.{IsSeen, Task}
use Rattle.grid_surveys.proofs.looking.look_at.Goals as goal

pub check_one-requires : goal.check_one-requires
check_one-requires g c = subst (λ (x : List ℕ). IfSome c.args.reading.now (WereChecked (grid_calls g.R.Stream.Write.contents g.R.Stream.Read.remaining) x)) (ap grid_of c.in-Check.is) c.requires.reading

pub repair_one-requires-clause-reading : goal.repair_one-requires-clause-reading
repair_one-requires-clause-reading g c = subst (λ (x : List ℕ). IfSome c.args.reading.now (WereChecked (grid_calls g.R.Stream.Write.contents g.R.Stream.Read.remaining) x)) (ap grid_of c.in-Repair.is) c.requires.reading

pub repair_one-requires-clause-writing : goal.repair_one-requires-clause-writing
repair_one-requires-clause-writing g c = subst (λ (x : List ℕ). IfSome c.args.writing.now (λ s. WereOpened (grid_calls g.R.Stream.Write.contents g.R.Stream.Read.remaining) x s.grid)) (ap grid_of c.in-Repair.is) c.requires.writing

pub returns-in-Check-clause-seen : goal.returns-in-Check-clause-seen
returns-in-Check-clause-seen g c = subst (λ (t : Task). IfOk c.check_one.result (IsSeen (grid_calls g.R.Stream.Write.contents g.R.Stream.Read.remaining) t (verify_of c.args.cap.now))) (sym (ap task_of c.in-Check.is)) c.check_one.ensures.seen

pub returns-in-Check-clause-reading : goal.returns-in-Check-clause-reading
returns-in-Check-clause-reading g c = subst (λ (x : List ℕ). IfSome c.check_one.new.reading (WereChecked (grid_calls g.R.Stream.Write.contents g.R.Stream.Read.remaining) x)) (sym (ap grid_of c.in-Check.is)) c.check_one.ensures.reading

pub returns-in-Repair-clause-seen : goal.returns-in-Repair-clause-seen
returns-in-Repair-clause-seen g c = subst (λ (t : Task). IfOk c.repair_one.result (IsSeen (grid_calls g.R.Stream.Write.contents g.R.Stream.Read.remaining) t (verify_of c.args.cap.now))) (sym (ap task_of c.in-Repair.is)) c.repair_one.ensures.seen

pub returns-in-Repair-clause-reading : goal.returns-in-Repair-clause-reading
returns-in-Repair-clause-reading g c = subst (λ (x : List ℕ). IfSome c.repair_one.new.reading (WereChecked (grid_calls g.R.Stream.Write.contents g.R.Stream.Read.remaining) x)) (sym (ap grid_of c.in-Repair.is)) c.repair_one.ensures.reading

pub returns-in-Repair-clause-writing : goal.returns-in-Repair-clause-writing
returns-in-Repair-clause-writing g c = subst (λ (x : List ℕ). IfSome c.repair_one.new.writing (λ s. WereOpened (grid_calls g.R.Stream.Write.contents g.R.Stream.Read.remaining) x s.grid)) (sym (ap grid_of c.in-Repair.is)) c.repair_one.ensures.writing
