use Rattle.std.proofs.Common.{◌≡◌, ℕ, ◌<◌, ◌≤◌, [], slice_index_or}
use Rattle.merkle.proofs.nodes.are_same.Given as goal

abbrev pub invariant-loop-i : goal.invariant-loop-i
invariant-loop-i l = (k : ℕ) → l.first ≤ k → k < l.i → slice_index_or l.left k [] ≡ slice_index_or l.right k []
