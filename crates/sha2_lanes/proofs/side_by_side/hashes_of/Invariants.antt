use Rattle.std.proofs.Common.{◌≡◌, ◌*◌, ◌<◌, ℕ, Some, drop, slice_get, take}
use Rattle.sha2_lanes.specs.declared.stream.Sha256Stream.{Sha256Stream}
use Rattle.sha2_lanes.proofs.side_by_side.hashes_of.Given as goal

abbrev pub invariant-loop-j : goal.invariant-loop-j
invariant-loop-j l = (k : ℕ) (s : Sha256Stream) → k < l.j → slice_get l.streams k ≡ Some s → take 8 (drop (8 * k) l.hashes) ≡ s.hash
