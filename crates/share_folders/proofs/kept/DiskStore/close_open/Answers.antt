use Rattle.std.specs.Prelude.{Ok}
use Rattle.std.proofs.Common.{◌≡◌, sym, ◌∙◌, ap, subst}
use Rattle.disks.specs.Names.{Name}
use Rattle.share_store.specs.Shelf.{ShareKey, at, key_of}
use Rattle.share_folders.specs.Names.{closed_name, open_name}
use Rattle.share_folders.specs.Stored.{WasWritten}
use Rattle.share_folders.proofs.Written.{same_closes, same_written}
use Rattle.share_folders.proofs.OpenLaws.{open_closed, open_same, open_unclosed}
use Rattle.share_folders.proofs.kept.DiskStore.close_open.Goals as goal

pub returns-clause-closes : goal.returns-clause-closes
returns-clause-closes g c honest bytes was =
    let name = c.in_ok-name.name in
    let opened = c.args.self.now.opened.entries in
    let s = g.D.Disk.folder c.args.self.now.disk in
    let begun : c.as_str.result.now ≡ open_name name.key name.own = c.as_str.ensures.value ∙ c.in_ok-open.ensures.text in
    let closed : c.as_str-2.result.now ≡ closed_name (key_of c.args.id.now) c.args.digest.now =
    c.as_str-2.ensures.value ∙ c.in_ok-closed.ensures.text ∙ ap (λ (k : ShareKey). closed_name k c.args.digest.now) c.in_ok-name.ensures.key in
    let written = same_written g.D.Disk.inode s opened (key_of c.args.id.now) name.key c.args.self.now.own name.own bytes c.in_ok-name.ensures.key c.in_ok-name.ensures.own was in
    same_closes c.args.self.now.durability c.as_str-2.result.now (closed_name (key_of c.args.id.now) c.args.digest.now) bytes c.put_closed.result _ _ _ closed c.in_ok-put_closed.was
    (c.put_closed.ensures.closes honest bytes (subst (λ (n : Name). WasWritten g.D.Disk.inode s n (at name.key opened) bytes) (sym begun) written))

pub returns-clause-beside : goal.returns-clause-beside
returns-clause-beside g c honest bytes was =
    let name = c.in_ok-name.name in
    let inode = g.D.Disk.inode in
    let opened = c.args.self.now.opened.entries in
    let s = g.D.Disk.folder c.args.self.now.disk in
    let begun : c.as_str.result.now ≡ open_name name.key name.own = c.as_str.ensures.value ∙ c.in_ok-open.ensures.text in
    let written = same_written inode s opened (key_of c.args.id.now) name.key c.args.self.now.own name.own bytes c.in_ok-name.ensures.key c.in_ok-name.ensures.own was in
    let but = c.put_closed.ensures.beside honest bytes (subst (λ (n : Name). WasWritten inode s n (at name.key opened) bytes) (sym begun) written) in
    open_same inode name.own c.args.self.now.own name.key (key_of c.args.id.now) ⊥ (Ok tt) s _ opened c.forget_open.new.opened.entries c.in_ok-name.ensures.key c.in_ok-name.ensures.own
    (open_closed inode name.own name.key (Ok tt) c.as_str.result.now s _ opened c.forget_open.new.opened.entries begun c.forget_open.ensures.gone c.forget_open.ensures.others but)

pub returns-in_err-put_closed-clause-beside : goal.returns-in_err-put_closed-clause-beside
returns-in_err-put_closed-clause-beside g c honest bytes was =
    let name = c.in_ok-name.name in
    let inode = g.D.Disk.inode in
    let opened = c.args.self.now.opened.entries in
    let s = g.D.Disk.folder c.args.self.now.disk in
    let begun : c.as_str.result.now ≡ open_name name.key name.own = c.as_str.ensures.value ∙ c.in_ok-open.ensures.text in
    let written = same_written inode s opened (key_of c.args.id.now) name.key c.args.self.now.own name.own bytes c.in_ok-name.ensures.key c.in_ok-name.ensures.own was in
    let but = c.put_closed.ensures.beside honest bytes (subst (λ (n : Name). WasWritten inode s n (at name.key opened) bytes) (sym begun) written) in
    open_same inode name.own c.args.self.now.own name.key (key_of c.args.id.now) ⊥ _ s _ opened opened c.in_ok-name.ensures.key c.in_ok-name.ensures.own
    (open_unclosed inode name.own name.key _ c.as_str.result.now s _ opened begun but)
