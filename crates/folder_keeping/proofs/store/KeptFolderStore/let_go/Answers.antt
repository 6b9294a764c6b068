use Rattle.std.proofs.Common.{◌≡◌, rules, refl, subst}
use Rattle.folder_keeping.specs.Store.{Facts, StoreState, DiskLetsGo}
use Rattle.folder_keeping.proofs.store.KeptFolderStore.let_go.Goals as goal

pub returns : goal.returns
returns g c =
    let D = g.row.D.Denot in
    let F = g.row.D-File.Denot in
    let m = c.self.inside in
    let n = c.let_go.new.self in
    let e = c.let_go.ensures in
    let d : Facts D F = record { folder = g.D.Disk.folder; honest = g.D.Disk.honest; relied = g.D.Disk.relied; inode = g.D.Disk.inode } in
    let s : StoreState D F = record { disk = m.store.disk; own = m.store.own; durability = m.store.durability; closed = m.store.closed.entries; opened = m.store.opened.entries; recent = m.store.recent; failures = m.failures } in
    let u : StoreState D F = record { disk = n.disk; own = n.own; durability = n.durability; closed = n.closed.entries; opened = n.opened.entries; recent = n.recent; failures = m.failures } in
    let same : s ≡ c.args.self.now = search rules in
    subst (λ (v : StoreState D F). DiskLetsGo d v c.args.id.now u) same
    (record {
      own = e.own;
      durability = e.durability;
      failures = refl;
      so_far = e.so_far;
      closed = e.closed;
      recent = e.recent;
      gone = e.gone;
      others = e.others;
      held = e.held;
      beside = e.beside;
    })
