-- What stands at a position of a list, and what a list contains.
use Rattle.std.proofs.Common.{◌≡◌, ℕ, Bool, true, false, cond, not, List, Contains, Some, None, refl, sym, ◌∙◌, true≢false}
use Rattle.std.specs.Prelude.{◌==◌}
use Rattle.std.proofs.lemmas.Bool.{eq-eqb, eqb-true}
pub use Rattle.lemmas.proofs.Positions.{got, get_set, get_other, set_cases}
use Rattle.placement.proofs.Members.{Contains-filter, from_filter}
use Rattle.request_record.specs.Record.{without}
use Rattle.download_shares.specs.Numbers.{released}

-- ---- one position is changed

-- ---- a position is not listed any more

pub without_keeps : (position q : ℕ) (xs : List ℕ) → Contains xs q → (q ≡ position → ⊥) → Contains (without position xs) q
without_keeps position q xs h other = Contains-filter (λ (p : ℕ). not (p == position)) xs q h (by (q == position) refl)
  where
    by : (b : Bool) → (q == position) ≡ b → not b ≡ true
    by true e = absurd (other (eqb-true q position e))
    by false e = refl

pub from_without : (position q : ℕ) (xs : List ℕ) → Contains (without position xs) q → Contains xs q × (q ≡ position → ⊥)
from_without position q xs h =
    let k = from_filter (λ (p : ℕ). not (p == position)) xs q h in
    (k.0, (λ e. by (q == position) refl k.1 e))
  where
    by : (b : Bool) → (q == position) ≡ b → not b ≡ true → q ≡ position → ⊥
    by true e f g = absurd (true≢false (sym f))
    by false e f g = true≢false (sym (eq-eqb q position g) ∙ e)

-- ---- the one that is read

pub released_at : (holding q : ℕ) → q ≡ holding → released holding (Some q) ≡ None
released_at holding q e = by (q == holding) refl
  where
    by : (b : Bool) → (q == holding) ≡ b → cond b None (Some q) ≡ None
    by true f = refl
    by false f = absurd (true≢false (sym (eq-eqb q holding e) ∙ f))

pub released_else : (holding q : ℕ) → (q ≡ holding → ⊥) → released holding (Some q) ≡ Some q
released_else holding q other = by (q == holding) refl
  where
    by : (b : Bool) → (q == holding) ≡ b → cond b None (Some q) ≡ Some q
    by true f = absurd (other (eqb-true q holding f))
    by false f = refl
