use Rattle.disks.proofs.Held.{held_on, found_held}
use Rattle.disks.proofs.OwnFiles.{found_own}
use Rattle.disks.proofs.own.remove_regular.Goals as goal

pub returns-in_err-find-clause-kept : goal.returns-in_err-find-clause-kept
returns-in_err-find-clause-kept g c honest = found_held c.args.name.now c.find.result _ _ (c.find.ensures.gives honest)

pub returns-then-is_none-clause-kept : goal.returns-then-is_none-clause-kept
returns-then-is_none-clause-kept g c honest = found_held c.args.name.now c.find.result _ _ (c.find.ensures.gives honest)

pub returns-clause-kept : goal.returns-clause-kept
returns-clause-kept g c honest =
    held_on _ _ _ (found_held c.args.name.now c.find.result _ _ (c.find.ensures.gives (c.discard.ensures.so_far honest))) (c.discard.ensures.kept honest)

pub returns-clause-others : goal.returns-clause-others
returns-clause-others g c honest name i file apart own =
    c.discard.ensures.others honest name i file apart
    (found_own _ c.args.name.now c.find.result _ _ (c.find.ensures.gives (c.discard.ensures.so_far honest)) name i file own)
