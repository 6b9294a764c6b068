-- Which shares are taken.
use Rattle.std.proofs.Common.{◌≡◌, ◌≢◌, ℕ, suc, ◌+◌, ◌-◌, ◌<◌, All, Contains, List, ◌++◌, length, take, drop, get_or, set, inl, inr, ap, sym, subst, ◌∙◌, arith}
use Rattle.std.specs.Prelude.{remove, slice_index}
use Rattle.std.proofs.lemmas.Bool.{cases_eq, cases_lt}
use Rattle.std.proofs.lemmas.List.{get_or-drop, get_or-map, get_or-set_other, get_or-set_same, get_or-take, length-drop, length-map, length-set, length-take-le, map-append}
use Rattle.std.proofs.lemmas.List.Elements.{Contains-append_cases, Contains-append_left, Contains-append_right}
use Rattle.zfec_code.specs.Rows.{AreDistinct}
use Rattle.share_source.specs.Candidates.{picked_numbers}

-- the number of a share that stands at one of these positions
pub number_among : (shares : List ℕ) (positions : List ℕ) (i : ℕ) → i < length positions → Contains (picked_numbers shares positions) (slice_index shares (get_or positions i 0))
number_among shares positions i low =
    (i, omega (arith, low, length-map positions (slice_index shares)), get_or-map (slice_index shares) positions i 0 (slice_index shares (get_or positions i 0)) low)

-- the numbers of shares of the file
pub number_low : (shares : List ℕ) (total p : ℕ) → All (λ number. number < total) shares → p < length shares → slice_index shares p < total
number_low shares total p range low =
    range p 0 low

-- a number that none of these shares has is none of theirs
pub none_is : (shares : List ℕ) (positions : List ℕ) (number : ℕ) → ¬ Contains (picked_numbers shares positions) number → (j : ℕ) → j < length positions
    → get_or (picked_numbers shares positions) j 0 ≢ number
none_is shares positions number none j low = λ is.
    none (subst (Contains (picked_numbers shares positions)) (sym (get_or-map (slice_index shares) positions j 0 0 low) ∙ is) (number_among shares positions j low))

-- a number that none of the others has is none of theirs
pub unlike_others : (shares : List ℕ) (positions : List ℕ) (index number : ℕ) → index < length positions → ¬ Contains (picked_numbers shares (remove positions index)) number
    → (j : ℕ) → j < length positions → j ≢ index → get_or (picked_numbers shares positions) j 0 ≢ number
unlike_others shares positions index number within none j low apart = λ is.
    let front : List ℕ = take index positions in
    let back : List ℕ = drop (suc index) positions in
    let own : slice_index shares (get_or positions j 0) ≡ number = sym (get_or-map (slice_index shares) positions j 0 0 low) ∙ is in
    let joined : picked_numbers shares (front ++ back) ≡ picked_numbers shares front ++ picked_numbers shares back = map-append (slice_index shares) front back in
    none (subst (λ (l : List ℕ). Contains l number) (sym joined) (elim (cases_lt j index) [
      | inl before ↦ Contains-append_left (picked_numbers shares front) (picked_numbers shares back) number
          (subst (Contains (picked_numbers shares front)) (ap (slice_index shares) (get_or-take index positions j 0 before) ∙ own)
          (number_among shares front j (omega (arith, before, within, length-take-le index positions (omega (arith, within))))))
      | inr after ↦ (let k : ℕ = j - (index + 1) in
          let at : suc index + k ≡ j = omega (arith, after, apart) in
          Contains-append_right (picked_numbers shares front) (picked_numbers shares back) number
          (subst (Contains (picked_numbers shares back)) (ap (slice_index shares) (get_or-drop (suc index) positions k 0 ∙ ap (λ n. get_or positions n 0) at) ∙ own)
          (number_among shares back k (omega (arith, at, low, length-drop (suc index) positions)))))
    ]))

-- different numbers stay so where one of them becomes one that none of the others is
pub distinct_set : (numbers : List ℕ) (index number : ℕ) → index < length numbers → AreDistinct numbers → ((j : ℕ) → j < length numbers → j ≢ index → get_or numbers j 0 ≢ number)
    → AreDistinct (set numbers index number)
distinct_set numbers index number within distinct unlike i j low_i low_j same =
    let long = length-set numbers index number in
    let now : List ℕ = set numbers index number in
    let own : get_or now index 0 ≡ number = get_or-set_same numbers index number 0 within in
    elim (cases_eq i index) [
      | inl e ↦ elim (cases_eq j index) [
        | inl f ↦ e ∙ sym f
        | inr apart ↦ absurd (unlike j (omega (arith, low_j, long)) apart
            (sym (get_or-set_other numbers index j number 0 apart) ∙ sym same ∙ ap (λ n. get_or now n 0) e ∙ own))
      ]
      | inr apart ↦ elim (cases_eq j index) [
        | inl f ↦ absurd (unlike i (omega (arith, low_i, long)) apart
            (sym (get_or-set_other numbers index i number 0 apart) ∙ same ∙ ap (λ n. get_or now n 0) f ∙ own))
        | inr other ↦ distinct i j (omega (arith, low_i, long)) (omega (arith, low_j, long))
            (sym (get_or-set_other numbers index i number 0 apart) ∙ same ∙ get_or-set_other numbers index j number 0 other)
      ]
    ]

-- a number that shares have or have not, and others
module _ (shares : List ℕ) (front back : List ℕ) (number : ℕ) where
  both_parts : picked_numbers shares (front ++ back) ≡ picked_numbers shares front ++ picked_numbers shares back
  both_parts = map-append (slice_index shares) front back

  pub among_front : Contains (picked_numbers shares front) number → Contains (picked_numbers shares (front ++ back)) number
  among_front has = subst (λ (l : List ℕ). Contains l number) (sym both_parts) (Contains-append_left (picked_numbers shares front) (picked_numbers shares back) number has)

  pub among_back : Contains (picked_numbers shares back) number → Contains (picked_numbers shares (front ++ back)) number
  among_back has = subst (λ (l : List ℕ). Contains l number) (sym both_parts) (Contains-append_right (picked_numbers shares front) (picked_numbers shares back) number has)

  pub among_none : ¬ Contains (picked_numbers shares front) number → ¬ Contains (picked_numbers shares back) number → ¬ Contains (picked_numbers shares (front ++ back)) number
  among_none none_front none_back = λ has.
      elim (Contains-append_cases (picked_numbers shares front) (picked_numbers shares back) number (subst (λ (l : List ℕ). Contains l number) both_parts has)) [
        | inl there ↦ none_front there
        | inr there ↦ none_back there
      ]
