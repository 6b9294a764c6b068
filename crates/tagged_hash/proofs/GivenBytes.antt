-- What the hashers of whole shares were given.
use Rattle.std.proofs.Common.{◌≡◌, ℕ, ◌+◌, ◌*◌, ◌<◌, List, [], ◌∷◌, ◌++◌, length, inl, inr, ap, sym, subst, arith}
use Rattle.lemmas.proofs.Positions.{get_pushed}
use Rattle.tagged_hash.specs.Wholes.{AreGiven, IsGivenAt}
use Rattle.tagged_hash.specs.declared.wholes.WholeHashers.{WholeHashers}

-- one group more
pub given-push : (total : ℕ) (written : ℕ → List ℕ) (wholes : List WholeHashers) (whole : WholeHashers) → AreGiven total written wholes
    → ((j : ℕ) → j < 7 → 7 * length wholes + j < total → IsGivenAt whole j (written (7 * length wholes + j))) → AreGiven total written (wholes ++ whole ∷ [])
given-push total written wholes whole held new k j other low within is =
    elim (get_pushed wholes whole other k is) [
      | inl before ↦ held k j other low within before
      | inr last ↦ (let here : 7 * k + j ≡ 7 * length wholes + j = ap (λ n. 7 * n + j) last.0 in
          subst (λ n. IsGivenAt other j (written n)) (sym here)
          (subst (λ (x : WholeHashers). IsGivenAt x j (written (7 * length wholes + j))) last.1 (new j low (omega (arith, here, within)))))
    ]
