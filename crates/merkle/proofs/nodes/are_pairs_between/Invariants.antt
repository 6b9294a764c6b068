use Rattle.std.proofs.Common.{ℕ, ◌+◌, ◌*◌, ◌<◌, ◌≤◌, List}
use Rattle.merkle.specs.Nodes.{IsPair}
use Rattle.merkle.proofs.nodes.are_pairs_between.Given as goal

-- the nodes from one on and before another are the hashes of their children
abbrev pub ArePairsBetween : List (List ℕ) → ℕ → ℕ → Type 0
ArePairsBetween nodes first end = (k : ℕ) → first ≤ k → k < end → IsPair nodes k

abbrev pub invariant-loop-group : goal.invariant-loop-group
invariant-loop-group l = ArePairsBetween l.nodes l.first (l.first + 8 * l.group)

abbrev pub invariant-loop-i : goal.invariant-loop-i
invariant-loop-i l = ArePairsBetween l.nodes l.first l.i
