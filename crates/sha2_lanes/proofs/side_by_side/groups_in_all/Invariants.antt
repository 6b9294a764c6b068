use Rattle.std.proofs.Common.{ℕ, ◌*◌, ◌^◌, ◌<◌, ◌≤◌, length}
use Rattle.sha2_lanes.specs.Lanes.{text}
use Rattle.sha2_lanes.proofs.side_by_side.groups_in_all.Given as goal

abbrev pub invariant-loop-j : goal.invariant-loop-j
invariant-loop-j l = record {
  in_range : 512 * l.count < 2 ^ 64;
  within : (k : ℕ) → k < l.j → 512 * l.count ≤ length (text l.pieces k);
}
