use Rattle.disks.proofs.Beside.{renames_held, renames_beside}
use Rattle.disks.proofs.closing.finish_unsynced.Goals as goal

pub returns-clause-held : goal.returns-clause-held
returns-clause-held g c honest bytes synced own relies = renames_held _ c.args.own.now c.args.last.now c.rename.result _ _ _ bytes synced (c.requires.lasting, relies) (c.rename.ensures.gives honest) own

pub returns-clause-kept : goal.returns-clause-kept
returns-clause-kept g c honest bytes synced own = renames_beside _ c.args.own.now c.args.last.now c.rename.result _ _ _ bytes synced (c.rename.ensures.gives honest) own
