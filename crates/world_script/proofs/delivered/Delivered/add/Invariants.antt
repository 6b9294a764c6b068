use Rattle.std.proofs.Common.{◌≡◌, length}
use Rattle.world_script.proofs.Marking.{AreSameMarks}
use Rattle.world_script.proofs.delivered.Delivered.add.Given as goal

abbrev pub invariant-loop-length : goal.invariant-loop-length
invariant-loop-length l = record {
  marks : AreSameMarks l.initial.self-inside.flags.items l.self-inside.flags.items;
  len : length l.self-inside.flags.items ≡ l._length;
  first : l.self-inside.first ≡ l.initial.self-inside.first;
}
