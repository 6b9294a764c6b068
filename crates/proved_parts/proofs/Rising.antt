-- Parts that rise by number.
use Rattle.std.proofs.Common.{◌≡◌, ℕ, zero, suc, ◌+◌, ◌-◌, ◌<◌, List, Some, get_or, slice_get, ap, ◌∙◌, arith}
use Rattle.std.proofs.lemmas.Option.{slice_get-get_or, slice_get_within}
use Rattle.proved_parts.specs.Steps.{Rise}
use Rattle.proved_parts.specs.declared.evidence.EvidencePart.{EvidencePart}

-- parts of which each has a higher number than the one before it rise
module _ (parts : List EvidencePart)
    (steps : (k : ℕ) (p q : EvidencePart) → slice_get parts k ≡ Some p → slice_get parts (k + 1) ≡ Some q → p.number < q.number) where
  rise_by : (n i : ℕ) (p q : EvidencePart) → slice_get parts i ≡ Some p → slice_get parts (i + suc n) ≡ Some q → p.number < q.number
  rise_by zero i p q here there =
      let e : i + 1 ≡ i + suc 0 = omega arith in
      steps i p q here (ap (slice_get parts) e ∙ there)
  rise_by (suc n) i p q here there =
      let inside = slice_get_within parts (i + suc (suc n)) q there in
      let between : EvidencePart = get_or parts (i + suc n) q in
      let at = slice_get-get_or parts (i + suc n) q (omega (arith, inside)) in
      let e : i + suc n + 1 ≡ i + suc (suc n) = omega arith in
      let low = rise_by n i p between here at in
      let high = steps (i + suc n) between q at (ap (slice_get parts) e ∙ there) in
      omega (arith, low, high)

  pub rise_steps : Rise parts
  rise_steps i j p q before here there =
      let e : i + suc (j - i - 1) ≡ j = omega (arith, before) in
      rise_by (j - i - 1) i p q here (ap (slice_get parts) e ∙ there)
