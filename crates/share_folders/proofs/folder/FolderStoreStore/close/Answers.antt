use Rattle.std.proofs.Common.{◌≡◌, rules, refl, subst}
use Rattle.std.specs.String.{string_bytes}
use Rattle.share_folders.specs.Folder.{FolderState, FolderCloses, lengths_of}
use Rattle.share_folders.proofs.FolderLaws.{on_err_lengths, opened_at}
use Rattle.share_folders.proofs.FolderSteps.{after, closes}
use Rattle.share_folders.proofs.folder.FolderStoreStore.close.Goals as goal

pub returns-clause-gives : goal.returns-clause-gives
returns-clause-gives g c =
    let m = c.self.inside in
    let n = c.close_open-outcome.new.self in
    let e = c.close_open-outcome.ensures in
    let q = c.close_open-outcome.result in
    let s : FolderState = record { folder = string_bytes m.store.disk.folder; own = m.store.own; durability = m.store.durability; closed = m.store.closed.entries; opened = lengths_of m.store.opened.entries; failures = m.failures } in
    let u : FolderState = record { folder = string_bytes n.disk.folder; own = n.own; durability = n.durability; closed = n.closed.entries; opened = lengths_of n.opened.entries; failures = m.failures } in
    let same : s ≡ c.args.self.now = search rules in
    let is : c.count.new.self ≡ after q u = c.count.ensures.counts in
    subst (λ (v : FolderState). FolderCloses v c.args.id.now c.args.digest.now c.count.result c.count.new.self) same
    (closes c.count.result q c.args.id.now c.args.digest.now s u c.count.new.self c.count.ensures.same is e.place e.own e.durability refl e.closed e.takes (opened_at _ m.store.opened.entries n.opened.entries e.others) e.err_closed
    (on_err_lengths q m.store.opened.entries n.opened.entries e.err_opened))
