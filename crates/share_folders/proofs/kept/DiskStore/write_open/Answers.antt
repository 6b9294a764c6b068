use Rattle.std.proofs.Common.{◌≡◌, refl, rules}
use Rattle.std.specs.Prelude.{IsErr}
use Rattle.share_store.specs.Shelf.{key_of}
use Rattle.share_folders.specs.Names.{open_name}
use Rattle.share_folders.proofs.Closings.{held_on}
use Rattle.share_folders.proofs.Written.{same_ready}
use Rattle.share_folders.proofs.OpenLaws.{open_gone, open_on, open_same}
use Rattle.share_folders.proofs.kept.DiskStore.write_open.Goals as goal

pub returns-then-is_err-clause-held : goal.returns-then-is_err-clause-held
returns-then-is_err-clause-held g c honest before was =
    let name = c.in_ok-name.name in
    let appended = c.remove_open.ensures.so_far honest in
    let begun = c.append_to-outcome.ensures.so_far appended in
    let written = same_ready g.D.Disk.inode c.args.offset _ c.args.self.now.opened.entries (key_of c.args.id.now) name.key c.args.self.now.own name.own before c.in_ok-name.ensures.key c.in_ok-name.ensures.own was in
    held_on _ _ _ (c.begin_at.ensures.held begun)
    (held_on _ _ _ (c.append_to-outcome.ensures.held appended (open_name name.key name.own) _ (c.in_ok-begin_at.ensures.begun begun before written)) (c.remove_open.ensures.held honest))

pub returns-else-is_err-clause-held : goal.returns-else-is_err-clause-held
returns-else-is_err-clause-held g c honest before was =
    let name = c.in_ok-name.name in
    let begun = c.append_to-outcome.ensures.so_far honest in
    let written = same_ready g.D.Disk.inode c.args.offset _ c.args.self.now.opened.entries (key_of c.args.id.now) name.key c.args.self.now.own name.own before c.in_ok-name.ensures.key c.in_ok-name.ensures.own was in
    held_on _ _ _ (c.begin_at.ensures.held begun)
    (c.append_to-outcome.ensures.held honest (open_name name.key name.own) _ (c.in_ok-begin_at.ensures.begun begun before written))

pub returns-then-is_err-clause-beside : goal.returns-then-is_err-clause-beside
returns-then-is_err-clause-beside g c honest =
    let name = c.in_ok-name.name in
    let inode = g.D.Disk.inode in
    let anew = c.args.offset ≡ 0 in
    let r = c.append_to-outcome.result in
    let appended = c.remove_open.ensures.so_far honest in
    let begun = c.append_to-outcome.ensures.so_far appended in
    let failed : IsErr r = search rules in
    let old = c.args.self.now.opened.entries in
    let mid = c.append_to-outcome.new.opened.entries in
    open_same inode name.own c.args.self.now.own name.key (key_of c.args.id.now) anew r _ _ old _ c.in_ok-name.ensures.key c.in_ok-name.ensures.own
    (open_gone inode name.own name.key anew r (open_name name.key name.own) _ (g.D.Disk.folder c.append_to-outcome.new.disk) _ old mid _ failed refl
    (open_on inode name.own name.key anew r _ _ _ old c.begin_at.new.self.opened.entries mid (c.in_ok-begin_at.ensures.beside begun) (c.append_to-outcome.ensures.beside appended name.own))
    c.remove_open.ensures.opened (c.remove_open.ensures.beside honest))
