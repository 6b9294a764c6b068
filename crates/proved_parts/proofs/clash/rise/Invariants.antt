use Rattle.std.proofs.Common.{◌≡◌, ◌+◌, ◌<◌, ℕ, Some, slice_get}
use Rattle.proved_parts.specs.declared.evidence.EvidencePart.{EvidencePart}
use Rattle.proved_parts.proofs.clash.rise.Given as goal

abbrev pub invariant-loop-i : goal.invariant-loop-i
invariant-loop-i l = (k : ℕ) (p q : EvidencePart) → k + 1 < l.i
    → slice_get l.parts k ≡ Some p → slice_get l.parts (k + 1) ≡ Some q → p.number < q.number
