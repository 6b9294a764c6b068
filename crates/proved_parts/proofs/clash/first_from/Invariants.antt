use Rattle.std.proofs.Common.{◌≡◌, ◌<◌, ◌≤◌, ℕ, Some, slice_get}
use Rattle.proved_parts.specs.declared.evidence.EvidencePart.{EvidencePart}
use Rattle.proved_parts.proofs.clash.first_from.Given as goal

abbrev pub invariant-loop-position : goal.invariant-loop-position
invariant-loop-position l = (k : ℕ) (q : EvidencePart) → l.from ≤ k → k < l.position
    → slice_get l.parts k ≡ Some q → q.number < l.number
