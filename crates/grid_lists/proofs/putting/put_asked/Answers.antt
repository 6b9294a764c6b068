use Rattle.std.proofs.Common.{ap}
use Rattle.std.specs.Prelude.{is_some}
use Rattle.grid_lists.proofs.ListLemmas.{many_done, many_undone, one_done, one_undone}
use Rattle.grid_lists.proofs.putting.put_asked.Goals as goal

pub returns-in-Some-clause-done : goal.returns-in-Some-clause-done
returns-in-Some-clause-done g c = one_done _ _ c.args.words.now _ c.put_one.result _ _ c.only_file.ensures (ap is_some c.in-Some.is) c.put_one.ensures.done

pub returns-in-Some-clause-undone : goal.returns-in-Some-clause-undone
returns-in-Some-clause-undone g c = one_undone _ _ c.args.words.now c.put_one.result _ _ c.put_one.ensures.undone

pub returns-in-None-clause-done : goal.returns-in-None-clause-done
returns-in-None-clause-done g c = many_done _ _ c.args.words.now _ c.put_list.result _ _ c.only_file.ensures (ap is_some c.in-None.is) c.put_list.ensures.done

pub returns-in-None-clause-undone : goal.returns-in-None-clause-undone
returns-in-None-clause-undone g c = many_undone _ _ c.args.words.now _ c.put_list.result _ _ c.only_file.ensures (ap is_some c.in-None.is) c.put_list.ensures.undone
