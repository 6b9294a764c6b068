use Rattle.std.proofs.Common.{List, ℕ, sym, subst}
use Rattle.std.specs.Prelude.{Option, Some}
use Rattle.share_folders.specs.declared.files.OpenShare.{OpenShare}
use Rattle.share_folders.specs.Stored.{WasWritten}
use Rattle.share_folders.proofs.Closings.{closes_later, failed_closes}
use Rattle.share_folders.proofs.Written.{none_written}
use Rattle.share_folders.proofs.OpenLaws.{of_beside, of_none, of_some}
use Rattle.share_folders.proofs.opened.close_file.Goals as goal

pub returns-in_err-share-in-None-clause-closes : goal.returns-in_err-share-in-None-clause-closes
returns-in_err-share-in-None-clause-closes g c honest bytes was =
    failed_closes _ _ bytes c.from_residual.result _ _ c.from_residual.ensures.0 (c.begin_share.ensures.held honest)

pub returns-in_ok-share-in-None-clause-closes : goal.returns-in_ok-share-in-None-clause-closes
returns-in_ok-share-in-None-clause-closes g c honest bytes was =
    let before = c.close_share-in-None.ensures.so_far honest in
    let none = none_written g.D.Disk.inode _ _ _ bytes (sym c.in-None.ensures.value) was in
    let begun = subst (λ (b : List ℕ). WasWritten g.D.Disk.inode (g.D.Disk.folder c.begin_share.new.disk) c.args.closing.now.open.now (Some c.in_ok-share-in-None.share) b) (sym none) (c.in_ok-share-in-None.ensures.begun before) in
    closes_later _ _ bytes c.close_share-in-None.result _ _ _ (c.begin_share.ensures.held before) (c.close_share-in-None.ensures.closes honest bytes begun)

pub returns-in-Some-clause-beside : goal.returns-in-Some-clause-beside
returns-in-Some-clause-beside g c honest bytes was =
    of_some g.D.Disk.inode c.args.closing.now.open.now c.in-Some.share.now _ _ _ (sym c.in-Some.ensures.value)
    (c.close_share.ensures.others honest bytes (subst (λ (o : Option (OpenShare g.row.D-File.Denot)). WasWritten g.D.Disk.inode (g.D.Disk.folder c.args.disk.now) c.args.closing.now.open.now o bytes) (sym c.in-Some.ensures.value) was))

pub returns-in_err-share-in-None-clause-beside : goal.returns-in_err-share-in-None-clause-beside
returns-in_err-share-in-None-clause-beside g c honest bytes was =
    of_beside g.D.Disk.inode c.args.closing.now.open.now _ _ _ (c.begin_share.ensures.others honest)

pub returns-in_ok-share-in-None-clause-beside : goal.returns-in_ok-share-in-None-clause-beside
returns-in_ok-share-in-None-clause-beside g c honest bytes was =
    let before = c.close_share-in-None.ensures.so_far honest in
    let none = none_written g.D.Disk.inode _ _ _ bytes (sym c.in-None.ensures.value) was in
    let begun = subst (λ (b : List ℕ). WasWritten g.D.Disk.inode (g.D.Disk.folder c.begin_share.new.disk) c.args.closing.now.open.now (Some c.in_ok-share-in-None.share) b) (sym none) (c.in_ok-share-in-None.ensures.begun before) in
    of_none g.D.Disk.inode c.args.closing.now.open.now c.in_ok-share-in-None.share _ _ _ _ (c.begin_share.ensures.others before)
    (c.in_ok-share-in-None.ensures.apart before) (c.close_share-in-None.ensures.others honest bytes begun)
