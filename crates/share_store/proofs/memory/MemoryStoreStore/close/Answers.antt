use Rattle.std.proofs.Common.{rules, ◌≡◌, ◌+◌, None, ap, arith, length}
use Rattle.std.specs.BTreeMap.{insert_entry}
use Rattle.share_store.specs.Shelf.{at, used, order, written_at}
use Rattle.share_store.specs.declared.shelf.ClosedShare.{ClosedShare}
use Rattle.share_store.proofs.ShelfLaws.{used_with}
use Rattle.share_store.proofs.memory.MemoryStoreStore.close.Goals as goal

pub invariant_of-self-2 : goal.invariant_of-self-2
invariant_of-self-2 c =
    let key = c.key_of-key.result in
    let closed = c.self.inside.closed.entries in
    let share : ClosedShare = record { bytes = written_at key c.self.inside.opened.entries; digest = c.args.digest.now } in
    let none : at key closed ≡ None = search rules in
    let total : used (insert_entry order closed key share) ≡ used closed + length (written_at key c.self.inside.opened.entries)
    = used_with closed key share c.move_closed.ensures.ordered none in
    let same : used c.move_closed.new.closed.entries ≡ used (insert_entry order closed key share) = ap used c.in_ok-move_closed.ensures.closed in
    let written : c.written_length-written.result ≡ length (written_at key c.self.inside.opened.entries) = c.written_length-written.ensures in
    let before : c.self.inside.closed_bytes ≡ used closed = c.self.invariant in
    let after : c.in-Some.used ≡ c.self.inside.closed_bytes + c.written_length-written.result = search rules in
    omega (arith, total, same, written, before, after)
