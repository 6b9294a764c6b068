-- Which good shares are chosen, verdict by verdict.
use Rattle.std.proofs.Common.{◌≡◌, ℕ, ◌+◌, ◌<◌, ◌≤◌, List, [], ◌∷◌, ◌++◌, Bool, true, false, cond, map, filter, sym, subst, ap, inl, inr, ◌∙◌, arith, zero-add, get_or}
use Rattle.std.specs.Prelude.{◌==◌, All, count_by}
use Rattle.std.specs.List.{Contains}
use Rattle.lemmas.proofs.Bools.{bool_cases}
use Rattle.lemmas.proofs.Members.{contains_cases, contains_head, contains_none, contains_tail}
use Rattle.lemmas.proofs.Numbers.{same_number}
use Rattle.std.proofs.lemmas.List.Sums.{sum_by-append}
use Rattle.std.proofs.lemmas.List.{append-nil, map-append}
use Rattle.std.proofs.lemmas.List.Elements.{All-push, Contains-append_cases, Contains-append_left, Contains-push, filter-append}
use Rattle.placement.specs.Matching.{Pair}
use Rattle.checker.specs.Report.{good_pairs, is_good, pair_of}
use Rattle.checker.specs.declared.status.ShareVerdict.{ShareVerdict}
use Rattle.carried_operations.specs.declared.range.SharePlace.{SharePlace}

-- what is chosen by these verdicts
pub record Chosen (verdicts : List ShareVerdict) (places : List SharePlace) : Type 0 where
  pub good : All (λ (p : SharePlace). Contains (good_pairs verdicts) (p.server, p.share)) places
  pub all : (pair : Pair) → Contains (good_pairs verdicts) pair → Contains (map (λ (p : SharePlace). p.share) places) pair.1
  pub few : (number : ℕ) → count_by (λ (p : SharePlace). p.share == number) places ≤ 2

-- what one more verdict gives
pairs_good : (vs : List ShareVerdict) (v : ShareVerdict) → is_good v.verdict ≡ true → good_pairs (vs ++ v ∷ []) ≡ good_pairs vs ++ pair_of v ∷ []
pairs_good vs v good =
    let test = λ (w : ShareVerdict). is_good w.verdict in
    ap (map pair_of) (filter-append test vs (v ∷ [])) ∙ map-append pair_of (filter test vs) (filter test (v ∷ []))
    ∙ ap (λ (b : Bool). good_pairs vs ++ map pair_of (cond b (v ∷ []) [])) good

pairs_other : (vs : List ShareVerdict) (v : ShareVerdict) → is_good v.verdict ≡ false → good_pairs (vs ++ v ∷ []) ≡ good_pairs vs
pairs_other vs v other =
    let test = λ (w : ShareVerdict). is_good w.verdict in
    ap (map pair_of) (filter-append test vs (v ∷ [])) ∙ map-append pair_of (filter test vs) (filter test (v ∷ []))
    ∙ ap (λ (b : Bool). good_pairs vs ++ map pair_of (cond b (v ∷ []) [])) other ∙ append-nil (good_pairs vs)

abbrev has_number : ℕ → SharePlace → Bool
has_number number p = p.share == number

-- how much a test adds to a count
abbrev weight : Bool → ℕ
weight b = cond b 1 0

count_more : (number : ℕ) (ps : List SharePlace) (p : SharePlace) → count_by (has_number number) (ps ++ p ∷ []) ≡ count_by (has_number number) ps + weight (p.share == number)
count_more number ps p = sum_by-append (λ (q : SharePlace). weight (has_number number q)) ps (p ∷ []) ∙ ap (λ (n : ℕ). count_by (has_number number) ps + n) (zero-add (weight (p.share == number)))

-- a number that is counted is among the numbers
counted_has : (number : ℕ) (ps : List SharePlace) → 0 < count_by (has_number number) ps → Contains (map (λ (p : SharePlace). p.share) ps) number
counted_has number [] some = absurd (omega (arith, some))
counted_has number (p ∷ ps) some = elim (bool_cases (p.share == number)) [
  | inl is ↦ subst (λ (n : ℕ). Contains (p.share ∷ map (λ (q : SharePlace). q.share) ps) n) (same_number p.share number is) (contains_head p.share (map (λ (q : SharePlace). q.share) ps))
  | inr other ↦
      let split = sum_by-append (λ (q : SharePlace). weight (has_number number q)) (p ∷ []) ps in
      let none = ap weight other in
      contains_tail p.share number (map (λ (q : SharePlace). q.share) ps) (counted_has number ps (omega (arith, split, none, some)))
]

pub chosen_none : Chosen [] []
chosen_none = record {
  good = λ k d h. absurd (omega (arith, h));
  all = λ pair c. absurd (contains_none pair c);
  few = λ number. omega arith;
}

-- a verdict that is not good changes nothing
pub chosen_other : (vs : List ShareVerdict) (v : ShareVerdict) (ps : List SharePlace) → is_good v.verdict ≡ false → Chosen vs ps → Chosen (vs ++ v ∷ []) ps
chosen_other vs v ps other c = record {
  good = λ k d h. subst (λ (l : List Pair). Contains l ((get_or ps k d).server, (get_or ps k d).share)) (sym (pairs_other vs v other)) (c.good k d h);
  all = λ pair among. c.all pair (subst (λ (l : List Pair). Contains l pair) (pairs_other vs v other) among);
  few = c.few;
}

good_still : (vs : List ShareVerdict) (v : ShareVerdict) (ps : List SharePlace) → is_good v.verdict ≡ true → Chosen vs ps → All (λ (p : SharePlace). Contains (good_pairs (vs ++ v ∷ [])) (p.server, p.share)) ps
good_still vs v ps good c k d h =
    let pair : Pair = ((get_or ps k d).server, (get_or ps k d).share) in
    subst (λ (l : List Pair). Contains l pair) (sym (pairs_good vs v good)) (Contains-append_left (good_pairs vs) (pair_of v ∷ []) pair (c.good k d h))

-- its number is among those of these places, and so each that has a good share
all_still : (vs : List ShareVerdict) (v : ShareVerdict) (ps qs : List SharePlace) → is_good v.verdict ≡ true → Chosen vs ps → ((number : ℕ) → Contains (map (λ (p : SharePlace). p.share) ps) number → Contains (map (λ (p : SharePlace). p.share) qs) number)
    → Contains (map (λ (p : SharePlace). p.share) qs) v.share → (pair : Pair) → Contains (good_pairs (vs ++ v ∷ [])) pair → Contains (map (λ (p : SharePlace). p.share) qs) pair.1
all_still vs v ps qs good c wider own pair among =
    elim (Contains-append_cases (good_pairs vs) (pair_of v ∷ []) pair (subst (λ (l : List Pair). Contains l pair) (pairs_good vs v good) among)) [
      | inl before ↦ wider pair.1 (c.all pair before)
      | inr last ↦ elim (contains_cases (pair_of v) pair [] last) [
        | inl same ↦ subst (λ (q : Pair). Contains (map (λ (p : SharePlace). p.share) qs) q.1) same own
        | inr none ↦ absurd (contains_none pair none)
      ]
    ]

-- a good share of a number that has enough changes nothing
pub chosen_enough : (vs : List ShareVerdict) (v : ShareVerdict) (ps : List SharePlace) → is_good v.verdict ≡ true → 2 ≤ count_by (λ (p : SharePlace). p.share == v.share) ps → Chosen vs ps → Chosen (vs ++ v ∷ []) ps
chosen_enough vs v ps good many c = record {
  good = good_still vs v ps good c;
  all = all_still vs v ps ps good c (λ number among. among) (counted_has v.share ps (omega (arith, many)));
  few = c.few;
}

-- a good share is chosen
pub chosen_more : (vs : List ShareVerdict) (v : ShareVerdict) (ps : List SharePlace) (p : SharePlace) → p.server ≡ v.server → p.share ≡ v.share → is_good v.verdict ≡ true
    → count_by (λ (q : SharePlace). q.share == v.share) ps < 2 → Chosen vs ps → Chosen (vs ++ v ∷ []) (ps ++ p ∷ [])
chosen_more vs v ps p server share good few c =
    let numbers : map (λ (q : SharePlace). q.share) (ps ++ p ∷ []) ≡ map (λ (q : SharePlace). q.share) ps ++ p.share ∷ [] = map-append (λ (q : SharePlace). q.share) ps (p ∷ []) in
    let last : Contains (map (λ (q : SharePlace). q.share) (ps ++ p ∷ [])) v.share =
    subst (λ (n : ℕ). Contains (map (λ (q : SharePlace). q.share) (ps ++ p ∷ [])) n) share (subst (λ (l : List ℕ). Contains l p.share) (sym numbers) (Contains-push (map (λ (q : SharePlace). q.share) ps) p.share)) in
    let own : Pair = (p.server, p.share) in
    let is : own ≡ pair_of v = (let one : own ≡ (v.server, p.share) = ap (λ (n : ℕ). let q : Pair = (n, p.share) in q) server in one ∙ ap (λ (n : ℕ). let q : Pair = (v.server, n) in q) share) in
    let here : Contains (good_pairs (vs ++ v ∷ [])) own = subst (λ (q : Pair). Contains (good_pairs (vs ++ v ∷ [])) q) (sym is) (subst (λ (l : List Pair). Contains l (pair_of v)) (sym (pairs_good vs v good)) (Contains-push (good_pairs vs) (pair_of v))) in
    record {
      good = All-push (λ (q : SharePlace). Contains (good_pairs (vs ++ v ∷ [])) (q.server, q.share)) ps p (good_still vs v ps good c) here;
      all = all_still vs v ps (ps ++ p ∷ []) good c (λ number among. subst (λ (l : List ℕ). Contains l number) (sym numbers) (Contains-append_left (map (λ (q : SharePlace). q.share) ps) (p.share ∷ []) number among)) last;
      few = λ number. elim (bool_cases (p.share == number)) [
        | inl same ↦
            let counted = count_more number ps p in
            let one = ap weight same in
            let below : count_by (has_number number) ps < 2 = subst (λ (n : ℕ). count_by (has_number n) ps < 2) (sym share ∙ same_number p.share number same) few in
            omega (arith, counted, one, below)
        | inr other ↦
            let counted = count_more number ps p in
            let none = ap weight other in
            let before = c.few number in
            omega (arith, counted, none, before)
      ];
    }
