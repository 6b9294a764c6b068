use Rattle.std.proofs.Common.{◌≡◌, ℕ, ◌+◌, ◌^◌, ◌<◌, [], slice_index_or, true}
use Rattle.merkle.specs.Partial.{is_padding, padding_hash}
use Rattle.merkle.proofs.nodes.has_padding.Given as goal

-- those of the rows before this one are right
abbrev pub invariant-loop-row : goal.invariant-loop-row
invariant-loop-row l = (number : ℕ) → number + 1 < 2 ^ l.row → is_padding l.leaf_count number ≡ true
    → slice_index_or l.nodes number [] ≡ padding_hash l.leaf_count number
