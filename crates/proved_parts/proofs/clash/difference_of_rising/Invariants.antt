use Rattle.std.proofs.Common.{◌≡◌, ◌<◌, ◌≤◌, ℕ, Some, get_or, length, slice_get}
use Rattle.std.specs.Prelude.{All}
use Rattle.proved_parts.specs.Steps.{Differ}
use Rattle.proved_parts.specs.declared.evidence.EvidencePart.{EvidencePart}
use Rattle.proved_parts.proofs.clash.difference_of_rising.Given as goal

abbrev pub invariant-loop-part : goal.invariant-loop-part
invariant-loop-part l = record {
  within : l.next ≤ length l.yours;
  -- those before the next have lower numbers than all that are left
  lower : (n m : ℕ) (p q : EvidencePart) → n < l.next → l.part-index ≤ m
      → slice_get l.yours n ≡ Some q → slice_get l.mine m ≡ Some p → q.number < p.number;
  none : (k : ℕ) (d : EvidencePart) → k < l.part-index
      → All (λ (q : EvidencePart). ¬ Differ (get_or l.mine k d) q) l.yours;
}
