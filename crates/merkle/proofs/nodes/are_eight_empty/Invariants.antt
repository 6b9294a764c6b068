use Rattle.std.proofs.Common.{◌≡◌, ℕ, ◌+◌, ◌<◌, [], slice_index_or}
use Rattle.tagged_hash.specs.TaggedHash.{empty_leaf_hash}
use Rattle.merkle.proofs.nodes.are_eight_empty.Given as goal

abbrev pub invariant-loop-k : goal.invariant-loop-k
invariant-loop-k l = (j : ℕ) → j < l.k → slice_index_or l.row (l.first + j) [] ≡ empty_leaf_hash (l.first + j)
