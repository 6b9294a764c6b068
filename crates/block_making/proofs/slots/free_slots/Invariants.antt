use Rattle.std.proofs.Common.{◌≡◌, ◌-◌, ◌≤◌, All, None, length, map, replicate}
use Rattle.block_making.specs.Slots.{held}
use Rattle.block_making.proofs.slots.free_slots.Given as goal

abbrev pub invariant-loop-alloc : goal.invariant-loop-alloc
invariant-loop-alloc l = record {
  few : length l.slots.items ≤ l.count;
  free : map (λ slot. held slot.name slot.bytes.items) l.slots.items ≡ replicate (length l.slots.items) None;
  room : All (λ slot. length slot.bytes.items ≡ l.room) l.slots.items;
}

abbrev pub decreases-loop-alloc : goal.decreases-loop-alloc
decreases-loop-alloc l = l.count - length l.slots.items
