use Rattle.std.proofs.Common.{◌≡◌, true, List, ℕ, sym, subst}
use Rattle.disks.specs.Folder.{HasBytes}
use Rattle.share_store.specs.Shelf.{ShareKey}
use Rattle.share_folders.specs.Names.{closed_name}
use Rattle.share_folders.specs.Stored.{HasShare}
use Rattle.share_folders.proofs.Closings.{held_on}
use Rattle.share_folders.proofs.Lasting.{closed_lasts}
use Rattle.share_folders.proofs.Holding.{as_given, held_looked, held_share, kept_on, kept_same, left_of, recent_later, some_share}
use Rattle.share_folders.proofs.kept.DiskStore.read_kept.Goals as goal

pub returns-clause-held : goal.returns-clause-held
returns-clause-held g c honest = held_on _ _ _ (c.look_at.ensures.held (c.read_named.ensures.so_far honest)) (c.read_named.ensures.held honest)

pub returns-clause-given : goal.returns-clause-given
returns-clause-given g c honest digest bytes found =
    let before = c.read_named.ensures.so_far honest in
    let key = c.key_of-key.result in
    let s = g.D.Disk.folder c.args.self.now.disk in
    let t = g.D.Disk.folder c.look_at.new.disk in
    let share = subst (λ (k : ShareKey). HasShare g.D.Disk.relied g.D.Disk.inode s c.args.self.now.closed.entries c.args.self.now.recent k digest bytes) (sym c.key_of-key.ensures) found in
    let facts = some_share c.in-Some.share.now digest bytes _ c.in-Some.ensures.value (c.in_ok-look_at.ensures.right before digest bytes share.kept) in
    let held = c.look_at.ensures.held before in
    let stands = subst (λ (d : List ℕ). HasBytes t bytes (t.found (closed_name key d))) (sym facts.1) (held.names (closed_name key digest) bytes (closed_lasts key digest share.kept.size, share.kept.relies) share.kept.stands) in
    as_given c.read_named.result _ _ (left_of c.args.count c.args.offset c.unwrap_or.result c.bytes_left-left.result c.in-Some.share.now.length bytes facts.0 c.unwrap_or.ensures c.bytes_left-left.ensures.value)
    (c.read_named.ensures.given honest bytes (subst (λ (d : List ℕ). g.D.Disk.relied (closed_name key d) bytes ≡ true) (sym facts.1) share.kept.relies) stands (recent_later g.D.Disk.inode s t key c.args.self.now.recent bytes held share.last))

pub returns-clause-still : goal.returns-clause-still
returns-clause-still g c honest =
    let before = c.read_named.ensures.so_far honest in
    let key = c.key_of-key.result in
    let s = g.D.Disk.folder c.args.self.now.disk in
    let m = g.D.Disk.folder c.look_at.new.disk in
    let t = g.D.Disk.folder c.read_named.new.disk in
    let held = c.look_at.ensures.held before in
    held_share g.D.Disk.inode s t c.args.self.now.closed.entries c.look_at.new.closed.entries c.args.self.now.recent c.read_named.new.recent key
    (kept_on s m t _ _ _ (c.look_at.ensures.kept before) (kept_same m t _ _ (c.read_named.ensures.held honest) (λ i. c.look_at.new.closed.entries)))
    (held_on s m t held (c.read_named.ensures.held honest)) c.read_named.ensures.latest
    (λ digest bytes share.
    let facts = some_share c.in-Some.share.now digest bytes _ c.in-Some.ensures.value (c.in_ok-look_at.ensures.right before digest bytes share.kept) in
    let there = held.names (closed_name key digest) bytes (closed_lasts key digest share.kept.size, share.kept.relies) share.kept.stands in
    c.read_named.ensures.recent honest bytes (subst (λ (d : List ℕ). g.D.Disk.relied (closed_name key d) bytes ≡ true) (sym facts.1) share.kept.relies) (subst (λ (d : List ℕ). HasBytes m bytes (m.found (closed_name key d))) (sym facts.1) there)
    (recent_later g.D.Disk.inode s m key c.args.self.now.recent bytes held share.last))

pub returns-in_err-look_at-clause-still : goal.returns-in_err-look_at-clause-still
returns-in_err-look_at-clause-still g c honest =
    held_looked g.D.Disk.inode _ _ c.args.self.now.closed.entries c.look_at.new.closed.entries c.args.self.now.recent (c.look_at.ensures.kept honest) (c.look_at.ensures.held honest)

pub returns-in_default-clause-still : goal.returns-in_default-clause-still
returns-in_default-clause-still g c honest =
    held_looked g.D.Disk.inode _ _ c.args.self.now.closed.entries c.look_at.new.closed.entries c.args.self.now.recent (c.look_at.ensures.kept honest) (c.look_at.ensures.held honest)

pub returns-clause-beside : goal.returns-clause-beside
returns-clause-beside g c honest name i file own =
    c.read_named.ensures.beside honest name i file (c.look_at.ensures.opened (c.read_named.ensures.so_far honest) name i file own)
