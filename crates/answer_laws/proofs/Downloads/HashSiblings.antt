-- The nodes of share hashes come with their siblings.
use Rattle.std.proofs.Common.{◌≡◌, ◌⊎◌, ℕ, zero, suc, ◌+◌, ◌-◌, ◌*◌, ◌/◌, ◌%◌, ◌^◌, ◌<◌, List, [], ◌∷◌, length, drop, get_or, Some, inl, inr, ap, refl, subst, sym, ◌∙◌, arith}
use Rattle.std.specs.Prelude.{slice_get}
use Rattle.std.proofs.Math.Nat.{div-div-eq-div-mul, div-eq_of_lt, pow-suc}
use Rattle.std.proofs.lemmas.Bool.{cases_eq, cases_lt}
use Rattle.merkle.specs.Offers.{AreWithSiblings, IsThere}
use Rattle.merkle.specs.Partial.{IsTouched, PartialState, ancestor, parent}
use Rattle.merkle.specs.Tree.{height, needed_numbers, node_number, sibling}
use Rattle.merkle.proofs.NumberLemmas.{length-needed_numbers, needed_above, needed_left, needed_right}
use Rattle.share_verify.specs.ShareHashes.{entries_in}
use Rattle.share_verify.proofs.ChunkLemmas.{length-first_chunks}
use Rattle.download_parts.specs.Offers.{numbered}
use Rattle.answer_laws.specs.Downloads.Siblings.{ShareHashesHaveSiblings}
use Rattle.answer_laws.proofs.Downloads.NodeLemmas.{ancestor_is, left_is, parent_is, right_is}

-- ---- what is offered

numbered_at : (ns : List ℕ) (entries : List (List ℕ)) (k : ℕ) → k < length ns → k < length entries
    → slice_get (numbered ns entries) k ≡ Some (get_or ns k 0, drop 2 (get_or entries k []))
numbered_at [] entries k there also = absurd (omega (arith, there))
numbered_at (n ∷ ns) [] k there also = absurd (omega (arith, also))
numbered_at (n ∷ ns) (entry ∷ entries) zero there also = refl
numbered_at (n ∷ ns) (entry ∷ entries) (suc k) there also = numbered_at ns entries k (omega (arith, there)) (omega (arith, also))

same_number : (offer : ℕ × List ℕ) (number : ℕ) (hash : List ℕ) → Some offer ≡ Some (number, hash) → offer.0 ≡ number
same_number offer number hash e = cc

numbered_where : (ns : List ℕ) (entries : List (List ℕ)) (k number : ℕ) (hash : List ℕ) → slice_get (numbered ns entries) k ≡ Some (number, hash)
    → (k < length ns) × (get_or ns k 0 ≡ number)
numbered_where [] entries k number hash e = absurd cc
numbered_where (n ∷ ns) [] k number hash e = absurd cc
numbered_where (n ∷ ns) (entry ∷ entries) zero number hash e = (omega arith, same_number (n, drop 2 entry) number hash e)
numbered_where (n ∷ ns) (entry ∷ entries) (suc k) number hash e =
    let rest = numbered_where ns entries k number hash e in (omega (arith, rest.0), rest.1)

-- two positions of one pair: the one, or its sibling
pair_cases : (x y : ℕ) → y / 2 ≡ x / 2 → (y ≡ x) ⊎ (y ≡ sibling x)
pair_cases x y same = elim (cases_eq y x) [
  | inl one ↦ inl one
  | inr other ↦ elim (cases_eq (x % 2) 0) [
    | inl even ↦ inr (rw even (omega (arith, same, other, even)))
    | inr odd ↦ let one : x % 2 ≡ 1 = omega (arith, odd) in inr (rw one (omega (arith, same, other, one)))
  ]
]

pair_sibling : (x : ℕ) → sibling x / 2 ≡ x / 2
pair_sibling x = elim (cases_eq (x % 2) 0) [
  | inl even ↦ rw even (omega (arith, even))
  | inr odd ↦ let one : x % 2 ≡ 1 = omega (arith, odd) in rw one (omega (arith, one))
]

half_next : (leaf i : ℕ) → leaf / 2 ^ suc i ≡ leaf / 2 ^ i / 2
half_next leaf i = ap (λ (n : ℕ). leaf / n) (pow-suc 2 i) ∙ sym (div-div-eq-div-mul leaf (2 ^ i) 2)

module _ (p : PartialState) (h leaf : ℕ) (entries : List (List ℕ)) (inside : leaf < 2 ^ h) (full : length entries ≡ h + 1) where
  abbrev ns : List ℕ
  ns = needed_numbers h leaf

  abbrev offers : List (ℕ × List ℕ)
  offers = numbered ns entries

  -- a number that is offered
  at : (k rows number : ℕ) → k < h + 1 → ancestor rows (get_or ns k 0) ≡ number → IsTouched offers number
  at k rows number low is = record {
    position = k;
    below = get_or ns k 0;
    hash = drop 2 (get_or entries k []);
    rows = rows;
    offered = numbered_at ns entries k (omega (arith, low, length-needed_numbers h leaf)) (omega (arith, low, full));
    above = is;
  }

  -- the leaf, and its sibling
  last_pair : (rows position number : ℕ) → 0 < h → position / 2 ≡ leaf / 2 → ancestor rows (node_number h position) ≡ number → IsTouched offers number
  last_pair rows position number some same is = elim (cases_eq (position % 2) 0) [
    | inl even ↦
        let here : get_or ns (h - 1) 0 ≡ node_number h position = needed_left h leaf (h - 1) (omega (arith, some)) ∙ omega (arith, same, even) in
        at (h - 1) rows number (omega arith) (ap (ancestor rows) here ∙ is)
    | inr odd ↦
        let here : get_or ns h 0 ≡ node_number h position = needed_right h leaf h some refl ∙ omega (arith, same, odd) in
        at h rows number (omega arith) (ap (ancestor rows) here ∙ is)
  ]

  -- each of a pair on the way from the leaf to the root
  there : (i position : ℕ) → i < h → position / 2 ≡ leaf / 2 ^ i / 2 → IsTouched offers (node_number (h - i) position)
  there zero position low same =
      let e : leaf / 1 ≡ leaf = omega arith in
      let none : h ≡ h - 0 = omega arith in
      subst (λ (n : ℕ). IsTouched offers (node_number n position)) none (last_pair 0 position (node_number h position) (omega (arith, low)) (same ∙ ap (λ (n : ℕ). n / 2) e) refl)
  there (suc i) position low same = elim (pair_cases (leaf / 2 ^ suc i) position same) [
    | inl own ↦
        last_pair (suc i) leaf (node_number (h - suc i) position) (omega (arith, low)) refl (ancestor_is (suc i) h leaf (omega (arith, low)) ∙ ap (node_number (h - suc i)) (sym own))
    | inr other ↦
        let k : ℕ = h - suc (suc i) in
        let row : k + 1 ≡ h - suc i = omega (arith, low) in
        let up : h - (k + 1) ≡ suc i = omega (arith, low) in
        let here : get_or ns k 0 ≡ node_number (h - suc i) position =
        needed_above h leaf k (omega (arith, low)) ∙ (λ j. node_number (row j) (sibling (leaf / 2 ^ up j))) ∙ ap (node_number (h - suc i)) (sym other) in
        at k 0 (node_number (h - suc i) position) (omega (arith, low)) here
  ]

  -- one of a pair on the way from the leaf to the root
  record IsPaired (number : ℕ) : Type 0 where
    pub i : ℕ
    pub position : ℕ
    pub low : i < h
    pub pair : position / 2 ≡ leaf / 2 ^ i / 2
    pub is : number ≡ node_number (h - i) position

  abbrev IsOnWay : ℕ → Type 0
  IsOnWay number = (number ≡ 0) ⊎ IsPaired number

  -- so is what is offered
  offered_on_way : (k : ℕ) → k < h + 1 → IsOnWay (get_or ns k 0)
  offered_on_way k low = elim (cases_lt (k + 1) h) [
    | inl upper ↦
        let row : k + 1 ≡ h - (h - (k + 1)) = omega (arith, upper) in
        inr (record {
          i = h - (k + 1);
          position = sibling (leaf / 2 ^ (h - (k + 1)));
          low = omega (arith, upper);
          pair = pair_sibling (leaf / 2 ^ (h - (k + 1)));
          is = needed_above h leaf k upper ∙ ap (λ n. node_number n (sibling (leaf / 2 ^ (h - (k + 1))))) row;
        })
    | inr lower ↦ elim (cases_lt 0 h) [
      | inl some ↦ inr (elim (cases_eq (k + 1) h) [
        | inl left ↦ record {
          i = 0;
          position = leaf / 2 * 2;
          low = some;
          pair = let e : leaf / 1 ≡ leaf = omega arith in omega (arith, ap (λ (n : ℕ). n / 2) e);
          is = let none : h ≡ h - 0 = omega arith in needed_left h leaf k left ∙ ap (λ (n : ℕ). node_number n (leaf / 2 * 2)) none;
        }
        | inr other ↦ record {
          i = 0;
          position = leaf / 2 * 2 + 1;
          low = some;
          pair = let e : leaf / 1 ≡ leaf = omega arith in omega (arith, ap (λ (n : ℕ). n / 2) e);
          is =
              let none : h ≡ h - 0 = omega arith in
              let sum : 2 ^ h - 1 + leaf / 2 * 2 + 1 ≡ node_number h (leaf / 2 * 2 + 1) = omega arith in
              needed_right h leaf k some (omega (arith, low, lower, other)) ∙ sum ∙ ap (λ (n : ℕ). node_number n (leaf / 2 * 2 + 1)) none;
        }
      ])
      | inr none ↦
          let flat : h ≡ 0 = omega (arith, none) in
          let first : k ≡ 0 = omega (arith, low, flat) in
          inl (λ j. get_or (needed_numbers (flat j) leaf) (first j) 0)
    ]
  ]

  -- and what is above it
  on_way : (rows number : ℕ) → IsOnWay number → IsOnWay (ancestor rows number)
  on_way zero number w = w
  on_way (suc rows) number w = elim (on_way rows number w) [
    | inl root ↦ inl (ap parent root)
    | inr above ↦
        let below = above.low in
        let row : h - above.i ≡ suc (h - suc above.i) = omega (arith, below) in
        let up : parent (ancestor rows number) ≡ node_number (h - suc above.i) (above.position / 2) =
        ap parent above.is ∙ ap (λ n. parent (node_number n above.position)) row ∙ parent_is (h - suc above.i) above.position in
        let half : above.position / 2 ≡ leaf / 2 ^ suc above.i = above.pair ∙ sym (half_next leaf above.i) in
        elim (cases_lt (suc above.i) h) [
          | inl further ↦ inr (record { i = suc above.i; position = above.position / 2; low = further; pair = ap (λ n. n / 2) half; is = up })
          | inr top ↦
              let last : suc above.i ≡ h = omega (arith, below, top) in
              let flat : h - suc above.i ≡ 0 = omega (arith, last) in
              let none : above.position / 2 ≡ 0 = half ∙ ap (λ n. leaf / 2 ^ n) last ∙ div-eq_of_lt inside in
              inl (up ∙ (λ j. node_number (flat j) (none j)))
        ]
  ]

  both : (number : ℕ) → 0 < number → IsOnWay number → IsThere p offers (2 * parent number + 1) × IsThere p offers (2 * parent number + 2)
  both number some (inl root) = absurd (omega (arith, some, root))
  both number some (inr w) =
      let low = w.low in
      let pair = w.pair in
      let left = ap (λ n. 2 * parent n + 1) w.is ∙ left_is (h - w.i) w.position (omega (arith, low)) in
      let right = ap (λ n. 2 * parent n + 2) w.is ∙ right_is (h - w.i) w.position (omega (arith, low)) in (
        subst (IsThere p offers) (sym left) (inl (there w.i (w.position / 2 * 2) low (omega (arith, pair)))),
        subst (IsThere p offers) (sym right) (inl (there w.i (w.position / 2 * 2 + 1) low (omega (arith, pair)))),
      )

  pub numbered_have_siblings : AreWithSiblings p offers
  numbered_have_siblings number t some =
      let found = numbered_where ns entries t.position t.below t.hash t.offered in
      both number some (subst IsOnWay t.above (on_way t.rows t.below
      (subst IsOnWay found.1 (offered_on_way t.position (omega (arith, found.0, length-needed_numbers h leaf))))))

pub share_hashes_have_siblings : ShareHashesHaveSiblings
share_hashes_have_siblings p total share bytes inside long =
    numbered_have_siblings p (height total) share (entries_in bytes) inside (length-first_chunks 34 (length bytes / 34) bytes ∙ omega (arith, long))
