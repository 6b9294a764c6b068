use Rattle.std.proofs.Common.{◌≡◌, rules, refl, subst}
use Rattle.std.specs.String.{string_bytes}
use Rattle.share_store.specs.Shelf.{key_of}
use Rattle.share_folders.specs.Folder.{FolderState, FolderLetsGo, lengths_of}
use Rattle.share_folders.proofs.FolderLaws.{none_written, opened_at}
use Rattle.share_folders.proofs.folder.FolderStoreStore.let_go.Goals as goal

pub returns : goal.returns
returns g c =
    let m = c.self.inside in
    let n = c.let_go.new.self in
    let e = c.let_go.ensures in
    let s : FolderState = record { folder = string_bytes m.store.disk.folder; own = m.store.own; durability = m.store.durability; closed = m.store.closed.entries; opened = lengths_of m.store.opened.entries; failures = m.failures } in
    let u : FolderState = record { folder = string_bytes n.disk.folder; own = n.own; durability = n.durability; closed = n.closed.entries; opened = lengths_of n.opened.entries; failures = m.failures } in
    let same : s ≡ c.args.self.now = search rules in
    subst (λ (v : FolderState). FolderLetsGo v c.args.id.now u) same
    (e.place, e.own, e.durability, e.closed, refl, opened_at _ m.store.opened.entries n.opened.entries e.others, none_written n.opened.entries (key_of c.args.id.now) e.gone)
