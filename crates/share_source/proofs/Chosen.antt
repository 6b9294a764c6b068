-- The first shares of different numbers.
use Rattle.std.proofs.Common.{◌≡◌, ◌≢◌, ℕ, ◌+◌, ◌<◌, ◌≤◌, ◌++◌, ◌∷◌, [], All, Contains, List, length, get_or, inl, inr, sym, subst, ◌∙◌, arith}
use Rattle.std.specs.Prelude.{slice_index}
use Rattle.std.proofs.lemmas.Bool.{cases_eq}
use Rattle.std.proofs.lemmas.List.{get_or_append_left, get_or_push, length-map, length_push, map-append, take-append-le, take_at}
use Rattle.std.proofs.lemmas.List.Elements.{All-push, Contains-append_left, Contains-push}
use Rattle.std.proofs.lemmas.Option.{slice_get_within}
use Rattle.lemmas.proofs.Positions.{get_pushed}
use Rattle.zfec_code.specs.Rows.{AreDistinct}
use Rattle.share_source.specs.Candidates.{AreFirst, picked_numbers}
use Rattle.share_source.proofs.Choice.{none_is}

-- so many shares were looked at, and these were taken
pub record AreChosen (shares : List ℕ) (needed seen : ℕ) (positions : List ℕ) : Type 0 where
  pub there : All (λ p. p < length shares) positions
  pub count : length positions ≤ needed
  pub distinct : AreDistinct (picked_numbers shares positions)
  pub first : AreFirst shares positions
  pub all : length positions < needed → (p : ℕ) → p < seen → Contains (picked_numbers shares positions) (slice_index shares p)

-- one number more, which is none of the others
distinct_push : (numbers : List ℕ) (number : ℕ) → AreDistinct numbers → ((j : ℕ) → j < length numbers → get_or numbers j 0 ≢ number) → AreDistinct (numbers ++ number ∷ [])
distinct_push numbers number distinct unlike i j low_i low_j same =
    let long = length_push numbers number in
    let own : (k : ℕ) → k ≡ length numbers → get_or (numbers ++ number ∷ []) k 0 ≡ number = λ k e. get_or_push numbers number 0 k (sym e) in
    let old : (k : ℕ) → k < length numbers → get_or (numbers ++ number ∷ []) k 0 ≡ get_or numbers k 0 = λ k low. get_or_append_left numbers (number ∷ []) 0 k low in
    elim (cases_eq i (length numbers)) [
      | inl e ↦ elim (cases_eq j (length numbers)) [
        | inl f ↦ e ∙ sym f
        | inr apart ↦ (let low : j < length numbers = omega (arith, low_j, long, apart) in absurd (unlike j low (sym (old j low) ∙ sym same ∙ own i e)))
      ]
      | inr apart ↦ (let low : i < length numbers = omega (arith, low_i, long, apart) in elim (cases_eq j (length numbers)) [
        | inl f ↦ absurd (unlike i low (sym (old i low) ∙ same ∙ own j f))
        | inr other ↦ (let low' : j < length numbers = omega (arith, low_j, long, other) in distinct i j low low' (sym (old i low) ∙ same ∙ old j low'))
      ])
    ]

module _ (shares : List ℕ) (needed seen : ℕ) (positions : List ℕ) (is : AreChosen shares needed seen positions) where
  -- the next share was taken
  pub chosen_more : seen < length shares → length positions < needed → ¬ Contains (picked_numbers shares positions) (slice_index shares seen)
      → AreChosen shares needed (seen + 1) (positions ++ seen ∷ [])
  chosen_more there few none =
      let more : List ℕ = positions ++ seen ∷ [] in
      let numbers : List ℕ = picked_numbers shares positions in
      let own : picked_numbers shares more ≡ numbers ++ slice_index shares seen ∷ [] = map-append (slice_index shares) positions (seen ∷ []) in
      record {
        there = All-push (λ p. p < length shares) positions seen is.there there;
        count = omega (arith, length_push positions seen, few);
        distinct = subst AreDistinct (sym own) (distinct_push numbers (slice_index shares seen) is.distinct
            (λ j low. none_is shares positions (slice_index shares seen) none j (omega (arith, low, length-map positions (slice_index shares)))));
        first = λ i position earlier at before. elim (get_pushed positions seen position i at) [
          | inl old ↦ (let low : i < length positions = slice_get_within positions i position old in
              subst (λ (l : List ℕ). Contains (picked_numbers shares l) (slice_index shares earlier)) (sym (take-append-le i positions (seen ∷ []) (omega (arith, low))))
              (is.first i position earlier old before))
          | inr last ↦ subst (λ (l : List ℕ). Contains (picked_numbers shares l) (slice_index shares earlier)) (sym (take_at positions (seen ∷ []) i (sym last.0)))
              (is.all few earlier (subst (λ n. earlier < n) (sym last.1) before))
        ];
        all = λ _ p low. subst (λ (l : List ℕ). Contains l (slice_index shares p)) (sym own) (elim (cases_eq p seen) [
          | inl e ↦ subst (λ n. Contains (numbers ++ slice_index shares seen ∷ []) (slice_index shares n)) (sym e) (Contains-push numbers (slice_index shares seen))
          | inr apart ↦ Contains-append_left numbers (slice_index shares seen ∷ []) (slice_index shares p) (is.all few p (omega (arith, low, apart)))
        ]);
      }

  -- the next share was not taken
  pub chosen_same : (length positions < needed → Contains (picked_numbers shares positions) (slice_index shares seen)) → AreChosen shares needed (seen + 1) positions
  chosen_same has = record {
    there = is.there;
    count = is.count;
    distinct = is.distinct;
    first = is.first;
    all = λ few p low. elim (cases_eq p seen) [
      | inl e ↦ subst (λ n. Contains (picked_numbers shares positions) (slice_index shares n)) (sym e) (has few)
      | inr apart ↦ is.all few p (omega (arith, low, apart))
    ];
  }
