use Rattle.std.proofs.Common.{◌≡◌, ℕ, refl, suc, ◌+◌, ◌-◌, ◌<◌, ◌++◌, Contains, List, Some, drop, false, length, take, inl, inr, ap, sym, subst, ◌∙◌, arith, true≢false}
use Rattle.std.specs.Prelude.{slice_get, slice_index}
use Rattle.std.proofs.lemmas.Bool.{cases_eq}
use Rattle.std.proofs.lemmas.List.{length-drop, take_all}
use Rattle.std.proofs.lemmas.Option.{same_Some, slice_get_within}
use Rattle.share_source.specs.Candidates.{picked_numbers}
use Rattle.share_source.proofs.Choice.{among_back, among_front, among_none}
use Rattle.share_source.proofs.choosing.find_spare.Goals as goal
use Rattle.share_source.proofs.choosing.find_spare.Goals.{else-is_left-via-then-is_left+then-not-is_among+else-not-is_among-2, else-is_left-via-then-is_left+else-not-is_among, else-is_left-via-else-is_left}

-- what stands from a position on
to_end : (xs : List ℕ) (i : ℕ) → take (length xs - (i + 1)) (drop (i + 1) xs) ≡ drop (suc i) xs
to_end xs i = take_all (length xs - (i + 1)) (drop (i + 1) xs) (omega (arith, length-drop (i + 1) xs)) ∙ (let e : i + 1 ≡ suc i = omega arith in ap (λ n. drop n xs) e)

-- what holds of a share's number, by other words
module _ (shown shares : List ℕ) (position number : ℕ) (others : List ℕ) (same : shown ≡ shares) (own : number ≡ slice_index shown position) where
  none_other : ¬ Contains (picked_numbers shown others) number → ¬ Contains (picked_numbers shares others) (slice_index shares position)
  none_other none = subst (λ (l : List ℕ). ¬ Contains (picked_numbers l others) (slice_index l position)) same (subst (λ n. ¬ Contains (picked_numbers shown others) n) own none)

  some_other : Contains (picked_numbers shown others) number → Contains (picked_numbers shares others) (slice_index shares position)
  some_other has = subst (λ (l : List ℕ). Contains (picked_numbers l others) (slice_index l position)) same (subst (Contains (picked_numbers shown others)) own has)

pub returns-then-not-is_among-2-clause-unlike : goal.returns-then-not-is_among-2-clause-unlike
returns-then-not-is_among-2-clause-unlike g c =
    let shown : List ℕ = c.numbers-numbers.result.now in
    let p : ℕ = c.loop-position.position in
    let front : List ℕ = take c.args.index c.args.positions.now in
    let back : List ℕ = drop (suc c.args.index) c.args.positions.now in
    let n : ℕ = slice_index shown p in
    let none_front : ¬ Contains (picked_numbers shown front) n = λ has. true≢false (sym (c.is_among.ensures.1 has) ∙ c.if-not-is_among.true) in
    let none_back : ¬ Contains (picked_numbers shown back) n =
    λ has. true≢false (sym (c.is_among-then-not-is_among.ensures.1 (subst (λ (l : List ℕ). Contains (picked_numbers shown l) n) (sym (to_end c.args.positions.now c.args.index)) has)) ∙ c.if-not-is_among-2.true) in
    none_other shown c.args.candidates.now.numbers p n (front ++ back) c.numbers-numbers.ensures.numbers refl
    (among_none shown front back n none_front none_back)

pub loop-position-preserved : goal.loop-position-preserved
loop-position-preserved g c = λ p low left.
    let shown : List ℕ = c.numbers-numbers.result.now in
    let shares : List ℕ = c.args.candidates.now.numbers in
    let at : ℕ = c.loop-position.position in
    let n : ℕ = slice_index shown at in
    let front : List ℕ = take c.args.index c.args.positions.now in
    let back : List ℕ = drop (suc c.args.index) c.args.positions.now in
    let here : slice_get c.args.candidates.now.struck at ≡ Some false → Contains (picked_numbers shares (front ++ back)) (slice_index shares at) = (λ left_here.
    elim c.else-is_left.branch [
      | else-is_left-via-then-is_left+then-not-is_among+else-not-is_among-2 w ↦
          some_other shown shares at n (front ++ back) c.numbers-numbers.ensures.numbers refl (among_back shown front back n
          (subst (λ (l : List ℕ). Contains (picked_numbers shown l) n) (to_end c.args.positions.now c.args.index) (w.is_among-then-not-is_among.ensures.0 w.if-not-is_among-2.false)))
      | else-is_left-via-then-is_left+else-not-is_among w ↦
          some_other shown shares at n (front ++ back) c.numbers-numbers.ensures.numbers refl (among_front shown front back n (w.is_among.ensures.0 w.if-not-is_among.false))
      | else-is_left-via-else-is_left w ↦ absurd (true≢false (same_Some _ _ (sym (w.if-is_left.ensures) ∙ left_here)))
    ]) in
    elim (cases_eq p at) [
      | inl e ↦ subst (λ m. Contains (picked_numbers shares (front ++ back)) (slice_index shares m)) (sym e) (here (ap (slice_get c.args.candidates.now.struck) (sym e) ∙ left))
      | inr apart ↦ c.loop-position.invariant p (omega (arith, low, apart)) left
    ]

pub returns-clause-none : goal.returns-clause-none
returns-clause-none g c = λ p left.
    let within : p < length c.args.candidates.now.struck = slice_get_within c.args.candidates.now.struck p false left in
    let long : length c.numbers-numbers.result.now ≡ length c.args.candidates.now.numbers = ap length c.numbers-numbers.ensures.numbers in
    c.loop-position.invariant p (omega (arith, within, c.numbers-numbers.ensures.count, long, c.loop-position-test.false)) left
