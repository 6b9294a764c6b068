use Rattle.disks.proofs.Held.{held_on, created_held}
use Rattle.disks.proofs.OwnFiles.{created_apart, created_beside, if_before}
use Rattle.disks.proofs.own.begin.Goals as goal

pub returns-in_err-remove_regular-clause-kept : goal.returns-in_err-remove_regular-clause-kept
returns-in_err-remove_regular-clause-kept g c honest =
    held_on _ _ _ (created_held g.D.Disk.inode c.args.name.now c.create.result _ _ c.requires.passing (c.create.ensures.gives (c.remove_regular.ensures.so_far honest)))
    (c.remove_regular.ensures.kept honest)

pub returns-clause-kept : goal.returns-clause-kept
returns-clause-kept g c honest =
    let removed = c.create-2.ensures.so_far honest in
    let first = c.remove_regular.ensures.so_far removed in
    held_on _ _ _ (created_held g.D.Disk.inode c.args.name.now c.create.result _ _ c.requires.passing (c.create.ensures.gives first))
    (held_on _ _ _ (c.remove_regular.ensures.kept removed)
    (created_held g.D.Disk.inode c.args.name.now c.create-2.result _ _ c.requires.passing (c.create-2.ensures.gives honest)))

pub returns-in-Ok-clause-kept : goal.returns-in-Ok-clause-kept
returns-in-Ok-clause-kept g c honest = created_held g.D.Disk.inode c.args.name.now c.create.result _ _ c.requires.passing (c.create.ensures.gives honest)

pub returns-in-Err : goal.returns-in-Err
returns-in-Err g c = record {
  place = c.create.ensures.place;
  so_far = c.create.ensures.so_far;
  begun = λ honest. tt;
  apart = λ honest. tt;
  kept = λ honest. created_held g.D.Disk.inode c.args.name.now c.create.result _ _ c.requires.passing (c.create.ensures.gives honest);
  others = λ honest. created_beside _ g.D.Disk.inode c.args.name.now c.create.result _ _ (c.create.ensures.gives honest);
}

pub returns-in_err-remove_regular-clause-others : goal.returns-in_err-remove_regular-clause-others
returns-in_err-remove_regular-clause-others g c honest =
    let first = created_beside _ g.D.Disk.inode c.args.name.now c.create.result _ _ (c.create.ensures.gives (c.remove_regular.ensures.so_far honest)) in
    λ name i file apart own. c.remove_regular.ensures.others honest name i file apart (first name i file apart own)

pub returns-clause-others : goal.returns-clause-others
returns-clause-others g c honest =
    let removed = c.create-2.ensures.so_far honest in
    let first = created_beside _ g.D.Disk.inode c.args.name.now c.create.result _ _ (c.create.ensures.gives (c.remove_regular.ensures.so_far removed)) in
    let last = created_beside _ g.D.Disk.inode c.args.name.now c.create-2.result _ _ (c.create-2.ensures.gives honest) in
    λ name i file apart own. last name i file apart (c.remove_regular.ensures.others removed name i file apart (first name i file apart own))

pub returns-clause-apart : goal.returns-clause-apart
returns-clause-apart g c honest =
    let removed = c.create-2.ensures.so_far honest in
    let first = created_beside _ g.D.Disk.inode c.args.name.now c.create.result _ _ (c.create.ensures.gives (c.remove_regular.ensures.so_far removed)) in
    if_before g.D.Disk.inode c.args.name.now c.create-2.result _ _
    (λ name i file apart own. c.remove_regular.ensures.others removed name i file apart (first name i file apart own))
    (created_apart _ g.D.Disk.inode c.args.name.now c.create-2.result _ _ (c.create-2.ensures.gives honest))
