use Rattle.std.proofs.Common.{Err, ap, inl, inr, refl}
use Rattle.grid_lists.specs.Gets.{read, unread}
use Rattle.grid_lists.proofs.getting.get_files.Goals as goal

pub returns-in-Ok-clause-done : goal.returns-in-Ok-clause-done
returns-in-Ok-clause-done g c = read _ c.in-Ok.catalogue.head c.in-Ok.catalogue.left c.in-Ok.ensures.head c.in_ok-get_lines-in-Ok.ensures

pub returns-clause-done : goal.returns-clause-done
returns-clause-done g c = unread _ (c.in-Err.ensures.refused.0 (ap Err c.in-Err.ensures.fault)) refl refl
