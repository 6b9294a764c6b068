use Rattle.std.proofs.Common.{◌≡◌, ◌++◌, ◌∷◌, [], slice_index_or}
use Rattle.share_gathering.proofs.ShareBlocks.{HaveSoFar}
use Rattle.share_gathering.proofs.few.push_hashes.Given as goal

abbrev pub invariant-loop-lane : goal.invariant-loop-lane
invariant-loop-lane l = HaveSoFar (λ i old new. new.leaves.items ≡ old.leaves.items ++ slice_index_or l.hashes i [] ∷ []) l.fn.shares l.shares l.lane
