use Rattle.std.proofs.Common.{◌≡◌, ℕ, ◌+◌, ◌^◌, ◌<◌, false}
use Rattle.merkle.specs.Nodes.{IsPair}
use Rattle.merkle.specs.Partial.{is_padding}
use Rattle.merkle.proofs.nodes.are_own_pairs.Given as goal

-- those of the rows before this one are hashes of their children
abbrev pub invariant-loop-row : goal.invariant-loop-row
invariant-loop-row l = (i : ℕ) → i + 1 < 2 ^ l.row → is_padding l.leaf_count i ≡ false → IsPair l.nodes i
