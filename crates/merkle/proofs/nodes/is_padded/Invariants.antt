use Rattle.std.proofs.Common.{◌≡◌, ℕ, ◌+◌, ◌*◌, ◌<◌, ◌≤◌, List, [], slice_index_or}
use Rattle.tagged_hash.specs.TaggedHash.{empty_leaf_hash}
use Rattle.merkle.proofs.nodes.is_padded.Given as goal

-- the leaves from one on and before another are empty
abbrev pub AreEmptyBetween : List (List ℕ) → ℕ → ℕ → Type 0
AreEmptyBetween row from end = (k : ℕ) → from ≤ k → k < end → slice_index_or row k [] ≡ empty_leaf_hash k

abbrev pub invariant-loop-group : goal.invariant-loop-group
invariant-loop-group l = AreEmptyBetween l.row l.leaf_count (l.leaf_count + 8 * l.group)

abbrev pub invariant-loop-position : goal.invariant-loop-position
invariant-loop-position l = AreEmptyBetween l.row l.leaf_count l.position
