use Rattle.std.proofs.Common.{ℕ, ◌<◌, get_or}
use Rattle.std.specs.Prelude.{All}
use Rattle.proved_parts.specs.Steps.{Differ}
use Rattle.proved_parts.specs.declared.evidence.EvidencePart.{EvidencePart}
use Rattle.proved_parts.proofs.clash.difference_of_any.Given as goal

abbrev pub invariant-loop-part : goal.invariant-loop-part
invariant-loop-part l = (k : ℕ) (d : EvidencePart) → k < l.part-index → All (λ (q : EvidencePart). ¬ Differ (get_or l.mine k d) q) l.yours
