use Rattle.std.proofs.Common.{◌≡◌, ◌⊎◌, ℕ, ◌+◌, ◌-◌, ◌*◌, ◌<◌, ◌≤◌, List, [], length, slice_index_or}
use Rattle.tagged_hash.specs.TaggedHash.{node_hash}
use Rattle.merkle.proofs.beside.fill_between.Given as goal

-- the nodes before this one are filled
pub record AreFilled (before nodes : List (List ℕ)) (first end i : ℕ) : Type 0 where
  pub long : length nodes ≡ length before
  pub from : first ≤ i
  pub to : i ≤ end
  pub made : (k : ℕ) → first ≤ k → k < i
      → slice_index_or nodes k [] ≡ node_hash (slice_index_or before (2 * k + 1) []) (slice_index_or before (2 * k + 2) [])
  pub others : (k : ℕ) → (k < first) ⊎ (i ≤ k) → slice_index_or nodes k [] ≡ slice_index_or before k []

abbrev pub invariant-groups : goal.invariant-groups
invariant-groups l = AreFilled l.fn.nodes l.nodes l.first l.end l.i

abbrev pub decreases-groups : goal.decreases-groups
decreases-groups l = l.end - l.i

abbrev pub invariant-loop-i : goal.invariant-loop-i
invariant-loop-i l = AreFilled l.fn.nodes l.nodes l.first l.end l.i

abbrev pub decreases-loop-i : goal.decreases-loop-i
decreases-loop-i l = l.end - l.i
