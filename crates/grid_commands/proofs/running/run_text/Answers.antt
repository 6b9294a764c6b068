use Rattle.std.proofs.Common.{ap, Err, subst, sym}
use Rattle.world_script.specs.Script.{lines_of}
use Rattle.grid_commands.specs.Faults.{IsFaultOf}
use Rattle.grid_commands.proofs.Faulting.{script_fault, spelled_end, spelled_refusal}
use Rattle.grid_commands.proofs.running.run_text.Goals as goal

pub returns-in-Ok-clause-ended : goal.returns-in-Ok-clause-ended
returns-in-Ok-clause-ended c =
    spelled_end (lines_of c.args.text.now) c.in-Ok.script c.run.result c.in-Ok.ensures.script c.run.ensures.ended

pub returns-in-Ok-clause-refused : goal.returns-in-Ok-clause-refused
returns-in-Ok-clause-refused c =
    spelled_refusal (lines_of c.args.text.now) c.in-Ok.script c.run.result c.in-Ok.ensures.script c.run.ensures.refused

pub returns-in-Err-clause-refused : goal.returns-in-Err-clause-refused
returns-in-Err-clause-refused c =
    subst (IsFaultOf (lines_of c.args.text.now)) (sym c.fault_of_script.ensures)
    (script_fault (lines_of c.args.text.now) c.in-Err.error (λ line e. c.in-Err.ensures.refused line (ap Err e)) (λ line e. c.in-Err.ensures.no_script line (ap Err e)))
