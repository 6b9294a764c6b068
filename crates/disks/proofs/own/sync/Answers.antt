use Rattle.disks.proofs.Held.{does_held, changes_held, spoils_held}
use Rattle.disks.proofs.own.sync.Goals as goal

pub returns-clause-kept : goal.returns-clause-kept
returns-clause-kept g c honest name before own unfinished =
    let s = g.D.Disk.folder c.args.disk.now in
    does_held _ _ c.sync_file.result s _ (changes_held s name _ before _ own unfinished) (spoils_held s name _ before own unfinished) (c.sync_file.ensures.gives honest)
