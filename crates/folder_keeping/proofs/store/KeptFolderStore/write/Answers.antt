use Rattle.std.proofs.Common.{◌≡◌, ℕ, List, rules, refl, sym, subst}
use Rattle.std.specs.Prelude.{◌==◌, ◌++◌, [], OnOk, Option, Result, if◌then◌else◌}
use Rattle.share_store.specs.Shelf.{at, key_of}
use Rattle.share_folders.specs.Names.{open_name}
use Rattle.share_folders.specs.Stored.{WasWritten}
use Rattle.share_store.specs.declared.error.StoreError.{StoreError}
use Rattle.folder_keeping.specs.Store.{Facts, StoreState, DiskWrites}
use Rattle.folder_keeping.proofs.Counted.{hand_on}
use Rattle.folder_keeping.proofs.store.KeptFolderStore.write.Goals as goal

pub returns-clause-gives : goal.returns-clause-gives
returns-clause-gives g c =
    let D = g.row.D.Denot in
    let F = g.row.D-File.Denot in
    let m = c.self.inside in
    let n = c.write_open-outcome.new.self in
    let e = c.write_open-outcome.ensures in
    let d : Facts D F = record { folder = g.D.Disk.folder; honest = g.D.Disk.honest; relied = g.D.Disk.relied; inode = g.D.Disk.inode } in
    let s : StoreState D F = record { disk = m.store.disk; own = m.store.own; durability = m.store.durability; closed = m.store.closed.entries; opened = m.store.opened.entries; recent = m.store.recent; failures = m.failures } in
    let u : StoreState D F = record { disk = n.disk; own = n.own; durability = n.durability; closed = n.closed.entries; opened = n.opened.entries; recent = n.recent; failures = m.failures } in
    let same : s ≡ c.args.self.now = search rules in
    subst (λ (v : StoreState D F). DiskWrites d v c.args.id.now c.args.offset c.args.bytes.now c.count.result c.count.new.self)
    same
    (hand_on (λ (r : Result (Unit {0}) StoreError) (t : StoreState D F). DiskWrites d s c.args.id.now c.args.offset c.args.bytes.now r t)
    c.write_open-outcome.result c.count.result u c.count.new.self c.count.ensures.same c.count.ensures.counts
    (record {
      goes = record { own = e.own; durability = e.durability; failures = refl; so_far = e.so_far };
      closed = e.closed;
      recent = e.recent;
      others = e.others;
      written = λ honest before ready.
          subst (λ (own : Option (List ℕ)). OnOk c.write_open-outcome.result (WasWritten g.D.Disk.inode (g.D.Disk.folder n.disk) (open_name (key_of c.args.id.now) own)
          (at (key_of c.args.id.now) n.opened.entries) ((if c.args.offset == 0 then [] else before) ++ c.args.bytes.now))) (sym e.own) (e.written honest before ready);
      held = e.held;
      beside = e.beside;
    }))
