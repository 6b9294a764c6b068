-- The shares that are selected, number by number.
use Rattle.std.proofs.Common.{◌≡◌, ℕ, ◌+◌, ◌<◌, ◌≤◌, List, [], ◌∷◌, ◌++◌, length, map, get_or, All, Bor, inl, inr, refl, ap, sym, subst, ◌∙◌, arith}
use Rattle.std.proofs.lemmas.List.{get_or-map, get_or_append_left, get_or_at, length-append, length-map, map-append}
use Rattle.std.proofs.lemmas.Bool.{cases_lt}
use Rattle.cap_text.specs.Cap.{VerifyCapValue}
use Rattle.zfec_code.specs.Rows.{AreDistinct}
use Rattle.share_verify.specs.Verify.{IsSoundShare}
use Rattle.file_encoding.specs.Reading.{AreLowest, AreRising, IsAmong, IsFirstSound, IsSoundAt, IsTaken, LacksShares, NoneSound, TakenShare, Takes, numbers_of}
use Rattle.file_encoding.proofs.Pigeonhole.{no_more}
use Rattle.file_encoding.specs.LowestShares.{AreLowestAt}

-- what stands at a position among the strings with their numbers
pub at_position : (cap : VerifyCapValue) (shares : List (ℕ × Bor (List ℕ))) (number position : ℕ) (d : ℕ × Bor (List ℕ)) → position < length shares
    → IsSoundAt cap (map (λ (s : ℕ × Bor (List ℕ)). s.0) shares) (map (λ (s : ℕ × Bor (List ℕ)). s.1.now) shares) number position
    ≡ (((get_or shares position d).0 ≡ number) × IsSoundShare cap number (get_or shares position d).1.now)
at_position cap shares number position d inside = λ i.
    (get_or-map (λ (s : ℕ × Bor (List ℕ)). s.0) shares position d 0 inside i ≡ number)
    × IsSoundShare cap number (get_or-map (λ (s : ℕ × Bor (List ℕ)). s.1.now) shares position d [] inside i)

All-push : {X : Type 0} (P : X → Type 0) (xs : List X) (x : X) → All P xs → P x → All P (xs ++ x ∷ [])
All-push P xs x each new k d below =
    elim (cases_lt k (length xs)) [
      | inl inside ↦ subst P (sym (get_or_append_left xs (x ∷ []) d k inside)) (each k d inside)
      | inr outside ↦ (let last : length xs ≡ k = let all = length-append xs (x ∷ []) in omega (arith, all, below) in
          subst P (sym (get_or_at xs x [] d k last)) new)
    ]

module _ (cap : VerifyCapValue) (numbers : List ℕ) (strings : List (List ℕ)) (below : ℕ) (taken : List TakenShare) where
  higher : All (λ (t : TakenShare). t.number < below) taken → All (λ (t : TakenShare). t.number < below + 1) taken
  higher low k d inside = let one = low k d inside in omega (arith, one)

  -- there are enough already
  full : AreLowest cap numbers strings below taken → length taken ≡ cap.needed → AreLowest cap numbers strings (below + 1) taken
  full lowest enough = record {
    each = lowest.each;
    low = higher lowest.low;
    rising = lowest.rising;
    few = lowest.few;
    others = λ number under.
        elim (cases_lt number below) [
          | inl before ↦ lowest.others number before
          | inr after ↦ (let same : below ≡ number = omega (arith, under, after) in
              inr (inr (enough, subst (λ n. All (λ (t : TakenShare). t.number < n) taken) same lowest.low)))
        ];
  }

  -- no string with this number passes
  none : AreLowest cap numbers strings below taken → NoneSound cap numbers strings below → AreLowest cap numbers strings (below + 1) taken
  none lowest nothing = record {
    each = lowest.each;
    low = higher lowest.low;
    rising = lowest.rising;
    few = lowest.few;
    others = λ number under.
        elim (cases_lt number below) [
          | inl before ↦ lowest.others number before
          | inr after ↦ (let same : below ≡ number = omega (arith, under, after) in inr (inl (subst (λ n. NoneSound cap numbers strings n) same nothing)))
        ];
  }

  -- one passes, and one more is needed
  more : AreLowest cap numbers strings below taken → length taken < cap.needed → (t : TakenShare) → t.number ≡ below → IsTaken cap numbers strings t
      → AreLowest cap numbers strings (below + 1) (taken ++ t ∷ [])
  more lowest few t here is =
      let all : length (taken ++ t ∷ []) ≡ length taken + 1 = length-append taken (t ∷ []) in
      let held : length (numbers_of taken) ≡ length taken = length-map taken (λ (u : TakenShare). u.number) in
      let listed : numbers_of (taken ++ t ∷ []) ≡ numbers_of taken ++ t.number ∷ [] = map-append (λ (u : TakenShare). u.number) taken (t ∷ []) in
      let last : get_or (numbers_of taken ++ t.number ∷ []) (length taken) 0 ≡ t.number = get_or_at (numbers_of taken) t.number [] 0 (length taken) held in
      let before : (k : ℕ) → k < length taken → get_or (numbers_of taken ++ t.number ∷ []) k 0 ≡ get_or (numbers_of taken) k 0 =
      (λ k inside. get_or_append_left (numbers_of taken) (t.number ∷ []) 0 k (omega (arith, inside, held))) in
      let under_here : (k : ℕ) → k < length taken → get_or (numbers_of taken) k 0 < below =
      (λ k inside. subst (λ n. n < below) (sym (get_or-map (λ (u : TakenShare). u.number) taken k t 0 inside)) (lowest.low k t inside)) in
      let rising : AreRising (numbers_of taken ++ t.number ∷ []) =
      (λ low high above inside.
      let size : length (numbers_of taken ++ t.number ∷ []) ≡ length taken + 1 = length-append (numbers_of taken) (t.number ∷ []) ∙ ap (λ n. n + 1) held in
      elim (cases_lt high (length taken)) [
        | inl old ↦ (let a = before low (omega (arith, above, old)) in let b = before high old in
            let was = lowest.rising low high above (omega (arith, old, held)) in omega (arith, a, b, was))
        | inr new ↦ (let at : high ≡ length taken = omega (arith, new, inside, size) in
            let value : get_or (numbers_of taken ++ t.number ∷ []) high 0 ≡ below = ap (λ k. get_or (numbers_of taken ++ t.number ∷ []) k 0) at ∙ last ∙ here in
            let a = before low (omega (arith, above, at)) in let under = under_here low (omega (arith, above, at)) in omega (arith, a, value, under))
      ]) in record {
        each = All-push (IsTaken cap numbers strings) taken t lowest.each is;
        low = All-push (λ (u : TakenShare). u.number < below + 1) taken t (higher lowest.low) (omega (arith, here));
        rising = subst AreRising (sym listed) rising;
        few = omega (arith, all, few);
        others = λ number under.
            elim (cases_lt number below) [
              | inl early ↦ elim (lowest.others number early) [
                | inl among ↦ inl (
                  among.0,
                  omega (arith, among.1, ap length listed ∙ length-append (numbers_of taken) (t.number ∷ [])),
                  ap (λ ns. get_or ns among.0 0) listed ∙ before among.0 (omega (arith, among.1, held)) ∙ among.2,
                )
                | inr rest ↦ elim rest [
                  | inl nothing ↦ inr (inl nothing)
                  | inr enough ↦ absurd (omega (arith, enough.0, few))
                ]
              ]
              | inr after ↦ (let same : below ≡ number = omega (arith, under, after) in
                  inl (
                    length taken,
                    omega (arith, ap length listed ∙ length-append (numbers_of taken) (t.number ∷ []), held),
                    ap (λ ns. get_or ns (length taken) 0) listed ∙ last ∙ here ∙ same,
                  ))
            ];
      }

-- the same by positions
pub full_at : (cap : VerifyCapValue) (numbers : List ℕ) (strings : List (List ℕ)) (below : ℕ) (positions : List ℕ)
    → AreLowestAt cap numbers strings below positions → cap.needed ≤ length positions → AreLowestAt cap numbers strings (below + 1) positions
full_at cap numbers strings below positions are enough =
    let count : length positions ≡ length are.taken = ap length are.at ∙ length-map are.taken (λ (t : TakenShare). t.position) in
    record { taken = are.taken; lowest = full cap numbers strings below are.taken are.lowest (omega (arith, enough, count, are.lowest.few)); at = are.at }

pub none_at : (cap : VerifyCapValue) (numbers : List ℕ) (strings : List (List ℕ)) (below : ℕ) (positions : List ℕ)
    → AreLowestAt cap numbers strings below positions → NoneSound cap numbers strings below → AreLowestAt cap numbers strings (below + 1) positions
none_at cap numbers strings below positions are nothing =
    record { taken = are.taken; lowest = none cap numbers strings below are.taken are.lowest nothing; at = are.at }

pub more_at : (cap : VerifyCapValue) (numbers : List ℕ) (strings : List (List ℕ)) (below position : ℕ) (positions : List ℕ)
    → AreLowestAt cap numbers strings below positions → length positions < cap.needed → IsFirstSound cap numbers strings below position
    → AreLowestAt cap numbers strings (below + 1) (positions ++ position ∷ [])
more_at cap numbers strings below position positions are few first =
    let count : length positions ≡ length are.taken = ap length are.at ∙ length-map are.taken (λ (t : TakenShare). t.position) in
    let sound = first.passes.1 in
    let t : TakenShare = record { position = position; number = below; contents = sound.0; sections = sound.1 } in
    record {
      taken = are.taken ++ t ∷ [];
      lowest = more cap numbers strings below are.taken are.lowest (omega (arith, few, count)) t refl record { first = first; sound = sound.2 };
      at = ap (λ ps. ps ++ position ∷ []) are.at ∙ sym (map-append (λ (u : TakenShare). u.position) are.taken (t ∷ []));
    }

pub none_yet : (cap : VerifyCapValue) (numbers : List ℕ) (strings : List (List ℕ)) → AreLowestAt cap numbers strings 0 []
none_yet cap numbers strings = record {
  taken = [];
  lowest = record {
    each = λ k d inside. absurd (omega arith);
    low = λ k d inside. absurd (omega arith);
    rising = λ low high above inside. absurd (omega arith);
    few = omega arith;
    others = λ number under. absurd (omega arith);
  };
  at = refl;
}

-- the numbers of the shares that are taken are different
pub rising_distinct : (numbers : List ℕ) → AreRising numbers → AreDistinct numbers
rising_distinct numbers rising i j under over same =
    elim (cases_lt i j) [
      | inl less ↦ (let up = rising i j less over in absurd (omega (arith, up, same)))
      | inr more ↦ elim (cases_lt j i) [
        | inl less ↦ (let up = rising j i less under in absurd (omega (arith, up, same)))
        | inr equal ↦ omega (arith, more, equal)
      ]
    ]

-- where fewer numbers pass than are needed, there are not enough to take
module _ (cap : VerifyCapValue) (numbers : List ℕ) (strings : List (List ℕ)) (taken : List TakenShare)
    (lacks : LacksShares cap numbers strings) (takes : Takes cap numbers strings taken) where
  passing : (any : TakenShare) → All (λ n. IsAmong n (numbers_of lacks.taken)) (numbers_of taken)
  passing any k d inside =
      let number : TakenShare → ℕ = λ t. t.number in
      let here : k < length taken = let count = length-map taken number in omega (arith, inside, count) in
      let t : TakenShare = get_or taken k any in
      let is : get_or (numbers_of taken) k d ≡ t.number = get_or-map number taken k any d here in
      let passes = (takes.lowest.each k any here).first in
      let among : IsAmong t.number (numbers_of lacks.taken) =
      elim (lacks.lowest.others t.number (takes.lowest.low k any here)) [
        | inl there ↦ there
        | inr (inl none) ↦ absurd (none t.position passes.inside passes.passes)
        | inr (inr full) ↦ absurd (let few = lacks.few in omega (arith, few, full.0))
      ] in
      subst (λ n. IsAmong n (numbers_of lacks.taken)) (sym is) among

  too_few : TakenShare → ⊥
  too_few any =
      let most = no_more (numbers_of taken) (numbers_of lacks.taken) (rising_distinct (numbers_of taken) takes.lowest.rising) (passing any) in
      let count = length-map taken (λ (t : TakenShare). t.number) in
      let held = length-map lacks.taken (λ (t : TakenShare). t.number) in
      let few = lacks.few in
      omega (arith, most, count, held, few, takes.enough)

lacks_or_takes : (cap : VerifyCapValue) (numbers : List ℕ) (strings : List (List ℕ)) (taken : List TakenShare)
    → LacksShares cap numbers strings → Takes cap numbers strings taken → ⊥
lacks_or_takes cap numbers strings [] lacks takes = let few = lacks.few in omega (arith, few, takes.enough)
lacks_or_takes cap numbers strings (t ∷ ts) lacks takes = too_few cap numbers strings (t ∷ ts) lacks takes t

-- so where a reader finds positions enough
pub enough_positions : (cap : VerifyCapValue) (numbers : List ℕ) (strings : List (List ℕ)) (positions : List ℕ)
    → AreLowestAt cap numbers strings cap.total positions → cap.needed ≤ length positions → ¬ LacksShares cap numbers strings
enough_positions cap numbers strings positions are enough lacks =
    let count : length positions ≡ length are.taken = ap length are.at ∙ length-map are.taken (λ (t : TakenShare). t.position) in
    let most = are.lowest.few in
    lacks_or_takes cap numbers strings are.taken lacks record { lowest = are.lowest; enough = omega (arith, enough, count, most) }
