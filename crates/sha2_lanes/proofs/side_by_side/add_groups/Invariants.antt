use Rattle.std.proofs.Common.{◌≡◌, ℕ, ◌<◌, Some, slice_get}
use Rattle.sha2.specs.Sha256.{hash_after}
use Rattle.sha2_lanes.specs.Lanes.{AreVectors, lane, text}
use Rattle.sha2_lanes.specs.declared.stream.Sha256Stream.{Sha256Stream}
use Rattle.sha2_lanes.proofs.side_by_side.add_groups.Given as goal

abbrev pub invariant-loop-i : goal.invariant-loop-i
invariant-loop-i l = record {
  vectors : AreVectors 8 l.lanes;
  hashes : (j : ℕ) (s : Sha256Stream) → j < 8 → slice_get l.streams j ≡ Some s → lane l.lanes j ≡ hash_after s.hash (text l.pieces j) l.i;
}
