use Rattle.grid_lists.proofs.AskedLemmas.{asked_done, asked_undone, fault_undone}
use Rattle.grid_lists.proofs.putting.put.Goals as goal

pub returns-in-Ok-clause-done : goal.returns-in-Ok-clause-done
returns-in-Ok-clause-done g c = asked_done _ _ c.args.words.now c.in-Ok.asked c.put_asked.result _ _ c.in-Ok.ensures c.put_asked.ensures.done

pub returns-in-Ok-clause-undone : goal.returns-in-Ok-clause-undone
returns-in-Ok-clause-undone g c = asked_undone _ _ c.args.words.now c.in-Ok.asked c.put_asked.result _ _ c.in-Ok.ensures c.put_asked.ensures.undone

pub returns-in-Err-clause-undone : goal.returns-in-Err-clause-undone
returns-in-Err-clause-undone g c = fault_undone _ _ c.args.words.now c.in-Err.fault _
