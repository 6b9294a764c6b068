use Rattle.std.proofs.Common.{◌≡◌, List, rules, refl, subst}
use Rattle.std.specs.Prelude.{Result}
use Rattle.wire.specs.declared.message.HeldShare.{HeldShare}
use Rattle.share_store.specs.declared.error.StoreError.{StoreError}
use Rattle.folder_keeping.specs.Store.{Facts, StoreState, DiskLists}
use Rattle.folder_keeping.proofs.Counted.{hand_on}
use Rattle.folder_keeping.proofs.store.KeptFolderStore.list.Goals as goal

pub returns-clause-gives : goal.returns-clause-gives
returns-clause-gives g c =
    let D = g.row.D.Denot in
    let F = g.row.D-File.Denot in
    let m = c.self.inside in
    let n = c.list_kept-outcome.new.self in
    let e = c.list_kept-outcome.ensures in
    let d : Facts D F = record { folder = g.D.Disk.folder; honest = g.D.Disk.honest; relied = g.D.Disk.relied; inode = g.D.Disk.inode } in
    let s : StoreState D F = record { disk = m.store.disk; own = m.store.own; durability = m.store.durability; closed = m.store.closed.entries; opened = m.store.opened.entries; recent = m.store.recent; failures = m.failures } in
    let u : StoreState D F = record { disk = n.disk; own = n.own; durability = n.durability; closed = n.closed.entries; opened = n.opened.entries; recent = n.recent; failures = m.failures } in
    let same : s ≡ c.args.self.now = search rules in
    subst (λ (v : StoreState D F). DiskLists d v c.args.index.now c.count.result c.count.new.self)
    same
    (hand_on (λ (r : Result (List HeldShare) StoreError) (t : StoreState D F). DiskLists d s c.args.index.now r t)
    c.list_kept-outcome.result c.count.result u c.count.new.self c.count.ensures.same c.count.ensures.counts
    (record {
      goes = record { own = e.own; durability = e.durability; failures = refl; so_far = e.so_far };
      stays = record { opened = e.opened; still = e.still; held = e.held; beside = e.beside };
      each = e.each;
    }))
