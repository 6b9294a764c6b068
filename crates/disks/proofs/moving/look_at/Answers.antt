use Rattle.disks.specs.Whole.{Any}
use Rattle.disks.proofs.Sparing.{keeps_on, opened_passes, passes_on}
use Rattle.disks.proofs.Moved.{found_any, opened_any}
use Rattle.disks.proofs.moving.look_at.Goals as goal

pub returns-in_err-file-clause-kept : goal.returns-in_err-file-clause-kept
returns-in_err-file-clause-kept g c honest own = opened_any g.D.Disk.inode own c.args.name.now c.open.result _ _ (c.open.ensures.gives honest)

pub returns-in_err-file-clause-any_moment : goal.returns-in_err-file-clause-any_moment
returns-in_err-file-clause-any_moment g c honest own = opened_passes own Any _ _ _ (c.open.ensures.passes honest)

pub returns-in_err-length-clause-kept : goal.returns-in_err-length-clause-kept
returns-in_err-length-clause-kept g c honest own =
    keeps_on own Any _ _ _ (opened_any g.D.Disk.inode own c.args.name.now c.open.result _ _ (c.open.ensures.gives (c.find.ensures.so_far honest)))
    (found_any own c.args.name.now c.find.result _ _ (c.find.ensures.gives honest))

pub returns-in_err-length-clause-any_moment : goal.returns-in_err-length-clause-any_moment
returns-in_err-length-clause-any_moment g c honest own =
    let before = c.find.ensures.so_far honest in
    passes_on own Any _ _ _ _ _ (opened_any g.D.Disk.inode own c.args.name.now c.open.result _ _ (c.open.ensures.gives before))
    (opened_passes own Any _ _ _ (c.open.ensures.passes before)) (opened_passes own Any _ _ _ (c.find.ensures.passes honest))

pub returns-in-Some-clause-kept : goal.returns-in-Some-clause-kept
returns-in-Some-clause-kept g c honest own =
    keeps_on own Any _ _ _ (opened_any g.D.Disk.inode own c.args.name.now c.open.result _ _ (c.open.ensures.gives (c.find.ensures.so_far honest)))
    (found_any own c.args.name.now c.find.result _ _ (c.find.ensures.gives honest))

pub returns-in-Some-clause-any_moment : goal.returns-in-Some-clause-any_moment
returns-in-Some-clause-any_moment g c honest own =
    let before = c.find.ensures.so_far honest in
    passes_on own Any _ _ _ _ _ (opened_any g.D.Disk.inode own c.args.name.now c.open.result _ _ (c.open.ensures.gives before))
    (opened_passes own Any _ _ _ (c.open.ensures.passes before)) (opened_passes own Any _ _ _ (c.find.ensures.passes honest))

pub returns-in-None-clause-kept : goal.returns-in-None-clause-kept
returns-in-None-clause-kept g c honest own =
    keeps_on own Any _ _ _ (opened_any g.D.Disk.inode own c.args.name.now c.open.result _ _ (c.open.ensures.gives (c.find.ensures.so_far honest)))
    (found_any own c.args.name.now c.find.result _ _ (c.find.ensures.gives honest))

pub returns-in-None-clause-any_moment : goal.returns-in-None-clause-any_moment
returns-in-None-clause-any_moment g c honest own =
    let before = c.find.ensures.so_far honest in
    passes_on own Any _ _ _ _ _ (opened_any g.D.Disk.inode own c.args.name.now c.open.result _ _ (c.open.ensures.gives before))
    (opened_passes own Any _ _ _ (c.open.ensures.passes before)) (opened_passes own Any _ _ _ (c.find.ensures.passes honest))
