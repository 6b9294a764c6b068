use Rattle.share_files.proofs.OneStep.{found_others, opened_others, others_then}
use Rattle.share_files.proofs.changes.look_at.Goals as goal

pub returns-in-Err-clause-looks : goal.returns-in-Err-clause-looks
returns-in-Err-clause-looks g c honest = opened_others g.D.Disk.inode c.args.name.now c.open.result _ _ (c.open.ensures.gives honest)

pub returns-in-Ok-Some-clause-looks : goal.returns-in-Ok-Some-clause-looks
returns-in-Ok-Some-clause-looks g c honest =
    others_then _ (g.D.Disk.folder c.open.new.self) _ (opened_others g.D.Disk.inode c.args.name.now c.open.result _ _ (c.open.ensures.gives (c.find.ensures.so_far honest)))
    (found_others c.args.name.now c.find.result _ _ (c.find.ensures.gives honest))

pub returns-in-Ok-None-clause-looks : goal.returns-in-Ok-None-clause-looks
returns-in-Ok-None-clause-looks g c honest =
    others_then _ (g.D.Disk.folder c.open.new.self) _ (opened_others g.D.Disk.inode c.args.name.now c.open.result _ _ (c.open.ensures.gives (c.find.ensures.so_far honest)))
    (found_others c.args.name.now c.find.result _ _ (c.find.ensures.gives honest))

pub returns-in-Err-find-clause-looks : goal.returns-in-Err-find-clause-looks
returns-in-Err-find-clause-looks g c honest =
    others_then _ (g.D.Disk.folder c.open.new.self) _ (opened_others g.D.Disk.inode c.args.name.now c.open.result _ _ (c.open.ensures.gives (c.find.ensures.so_far honest)))
    (found_others c.args.name.now c.find.result _ _ (c.find.ensures.gives honest))
