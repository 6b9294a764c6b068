use Rattle.std.proofs.Common.{◌≡◌, rules, sym, subst}
use Rattle.std.specs.Prelude.{Option, Some}
use Rattle.share_store.specs.Shelf.{at, same_key}
use Rattle.share_folders.specs.Table.{StayBeside}
use Rattle.share_folders.specs.declared.files.OpenShare.{OpenShare}
use Rattle.share_folders.specs.Stored.{WasWritten}
use Rattle.share_folders.proofs.OpenLaws.{open_changed}
use Rattle.share_folders.proofs.opened.append_there.Goals as goal

pub returns-in-Some-clause-held : goal.returns-in-Some-clause-held
returns-in-Some-clause-held g c honest name before was =
    c.append.ensures.held honest name before
    (subst (λ (o : Option (OpenShare g.row.D-File.Denot)). WasWritten g.D.Disk.inode (g.D.Disk.folder c.args.disk.now) name o before) (sym c.in-Some.ensures.value) was)

pub returns-in-Some-clause-beside : goal.returns-in-Some-clause-beside
returns-in-Some-clause-beside g c honest own =
    let key = c.args.key.now in
    let old = c.args.opened.now.entries in
    let new = (c.get_mut.follows.lender c.append.new.share).entries in
    let there : at key new ≡ Some c.append.new.share = search rules in
    let others : StayBeside (same_key key) old new = search rules in
    open_changed g.D.Disk.inode own key c.in-Some.share.now c.append.new.share c.append.result _ _ old new (sym c.in-Some.ensures.value) there
    c.append.ensures.same others (c.append.ensures.others honest)
