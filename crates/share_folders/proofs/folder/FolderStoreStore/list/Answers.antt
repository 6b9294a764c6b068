use Rattle.std.proofs.Common.{◌≡◌, rules, refl, ap, subst}
use Rattle.std.specs.String.{string_bytes}
use Rattle.share_folders.specs.Folder.{FolderState, FolderLists, lengths_of}
use Rattle.share_folders.proofs.FolderSteps.{after, lists}
use Rattle.share_folders.proofs.folder.FolderStoreStore.list.Goals as goal

pub returns-clause-gives : goal.returns-clause-gives
returns-clause-gives g c =
    let m = c.self.inside in
    let n = c.list_kept-outcome.new.self in
    let e = c.list_kept-outcome.ensures in
    let q = c.list_kept-outcome.result in
    let s : FolderState = record { folder = string_bytes m.store.disk.folder; own = m.store.own; durability = m.store.durability; closed = m.store.closed.entries; opened = lengths_of m.store.opened.entries; failures = m.failures } in
    let u : FolderState = record { folder = string_bytes n.disk.folder; own = n.own; durability = n.durability; closed = n.closed.entries; opened = lengths_of n.opened.entries; failures = m.failures } in
    let same : s ≡ c.args.self.now = search rules in
    let is : c.count.new.self ≡ after q u = c.count.ensures.counts in
    subst (λ (v : FolderState). FolderLists v c.args.index.now c.count.result c.count.new.self) same
    (lists c.count.result q c.args.index.now s u c.count.new.self c.count.ensures.same is e.told e.cause
    (record { seen = e.seen; others = e.others; folder = e.place; own = e.own; durability = e.durability; opened = ap lengths_of e.opened; failures = refl }))
