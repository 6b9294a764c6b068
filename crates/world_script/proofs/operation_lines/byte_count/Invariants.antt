use Rattle.std.proofs.Common.{◌≡◌, ◌≤◌, ◌*◌, ◌^◌, take}
use Rattle.world_script.specs.Telling.{byte_count}
use Rattle.world_script.proofs.operation_lines.byte_count.Given as goal

abbrev pub invariant-loop-piece : goal.invariant-loop-piece
invariant-loop-piece l = record {
  is : l.count ≡ byte_count (take l.piece-index l.pieces);
  few : l.count ≤ l.piece-index * 2 ^ 64;
}
