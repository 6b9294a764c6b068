-- Shares that are struck out.
use Rattle.std.proofs.Common.{◌≡◌, ◌≢◌, ℕ, ◌<◌, Bool, true, false, cond, not, List, Some, get_or, set, inl, inr, ap, sym, ◌∙◌, arith, true≢false}
use Rattle.std.specs.Prelude.{slice_get}
use Rattle.std.proofs.lemmas.Bool.{cases_eq}
use Rattle.std.proofs.lemmas.List.Sums.{sum_by-set}
use Rattle.std.proofs.lemmas.Option.{get_or_from_slice_get, same_Some, slice_get_within}
use Rattle.lemmas.proofs.Positions.{get_set, get_set_other}
use Rattle.share_source.specs.Candidates.{AreReadOn}
use Rattle.share_source.specs.Reading.{StayStruck, unstruck_count}

-- one share more is struck out
pub left_fewer : (struck : List Bool) (p : ℕ) → slice_get struck p ≡ Some false → unstruck_count (set struck p true) < unstruck_count struck
left_fewer struck p e =
    let left : Bool → ℕ = λ b. cond (not b) 1 0 in
    let sums = sum_by-set left struck p true true (slice_get_within struck p false e) in
    let was : left (get_or struck p true) ≡ left false = ap left (get_or_from_slice_get struck p false true e) in
    omega (arith, sums, was)

-- no share comes back by that
pub stay_struck : (struck : List Bool) (p : ℕ) → slice_get struck p ≡ Some false → StayStruck struck (set struck p true)
stay_struck struck p was q left =
    elim (cases_eq q p) [
      | inl e ↦ absurd (true≢false (same_Some true false (sym (get_set struck p true false was) ∙ ap (slice_get (set struck p true)) (sym e) ∙ left)))
      | inr apart ↦ sym (get_set_other struck p q true apart) ∙ left
    ]

-- shares are read on where another took the place of one that was struck out
pub read_on_more : (struck : List Bool) (first old new : List ℕ) (index was : ℕ) → AreReadOn first struck old → slice_get old index ≡ Some was → slice_get struck was ≡ Some true
    → ((i : ℕ) → i ≢ index → slice_get new i ≡ slice_get old i) → AreReadOn first struck new
read_on_more struck first old new index was on at out others i p there left =
    elim (cases_eq i index) [
      | inl e ↦ (let same : p ≡ was = same_Some p was (sym (on i p there left) ∙ ap (slice_get old) e ∙ at) in
          absurd (true≢false (same_Some true false (sym out ∙ ap (slice_get struck) (sym same) ∙ left))))
      | inr apart ↦ others i apart ∙ on i p there left
    ]
