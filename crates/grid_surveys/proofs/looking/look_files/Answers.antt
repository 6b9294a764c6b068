use Rattle.std.proofs.Common.{Err, ap, refl}
use Rattle.std.proofs.lemmas.Result.{IfOk-weaker}
use Rattle.grid_surveys.specs.Looks.{read, unread}
use Rattle.grid_surveys.proofs.looking.look_files.Goals as goal

pub returns-in_ok-find_grid-in-Ok-clause-done : goal.returns-in_ok-find_grid-in-Ok-clause-done
returns-in_ok-find_grid-in-Ok-clause-done g c =
    IfOk-weaker c.look_lines.result _ _ (λ status looked. read _ c.in-Ok.catalogue.head c.in-Ok.catalogue.left c.in-Ok.ensures.head looked) c.look_lines.ensures.done

pub returns-in_ok-tell_unread-in-Err-clause-done : goal.returns-in_ok-tell_unread-in-Err-clause-done
returns-in_ok-tell_unread-in-Err-clause-done g c = unread _ (c.in-Err.ensures.refused.0 (ap Err c.in-Err.ensures.fault)) refl refl
