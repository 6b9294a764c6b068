use Rattle.std.proofs.Common.{◌≡◌, ℕ, ◌+◌, ◌*◌, ◌<◌, [], slice_index_or}
use Rattle.tagged_hash.specs.TaggedHash.{node_hash}
use Rattle.merkle.proofs.nodes.are_eight_pairs.Given as goal

abbrev pub invariant-loop-k : goal.invariant-loop-k
invariant-loop-k l = (j : ℕ) → j < l.k
    → slice_index_or l.nodes (l.first + j) [] ≡ node_hash (slice_index_or l.nodes (2 * (l.first + j) + 1) []) (slice_index_or l.nodes (2 * (l.first + j) + 2) [])
