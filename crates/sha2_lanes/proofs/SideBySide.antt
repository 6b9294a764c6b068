-- Eight hashers, each of which was given a piece.
use Rattle.std.proofs.Common.{◌≡◌, ◌≢◌, ℕ, ◌+◌, ◌*◌, ◌%◌, ◌<◌, ◌≤◌, ◌⊎◌, inl, inr, List, ◌++◌, length, get_or, set, take, drop, Some, refl, sym, ap, subst, ◌∙◌, arith}
use Rattle.std.specs.Prelude.{slice_get}
use Rattle.std.proofs.Math.ListN.{length-set}
use Rattle.std.proofs.lemmas.Bool.{cases_eq}
use Rattle.std.proofs.lemmas.List.{append_assoc, take-append-drop}
use Rattle.std.proofs.lemmas.Option.{same_Some}
use Rattle.lemmas.proofs.Positions.{get_of, get_set, get_set_other}
use Rattle.std.proofs.Common.{get_or-set_other, get_or-set_same}
use Rattle.sha2.specs.Sha256.{hash_after}
use Rattle.sha2_lanes.specs.Stream.{Holds}
use Rattle.sha2_lanes.specs.declared.stream.Sha256Stream.{Sha256Stream}

-- the first of these have become what they are now, and the others stand as they were
pub record HaveSoFar (By : ℕ → Sha256Stream → Sha256Stream → Type 0) (old now : List Sha256Stream) (done : ℕ) : Type 0 where
  pub count : length now ≡ length old
  pub added : (i : ℕ) (before after : Sha256Stream) → i < done → slice_get old i ≡ Some before → slice_get now i ≡ Some after → By i before after
  pub same : (i : ℕ) → done ≤ i → slice_get now i ≡ slice_get old i

pub so_far-none : (By : ℕ → Sha256Stream → Sha256Stream → Type 0) (old : List Sha256Stream) → HaveSoFar By old old 0
so_far-none By old = record { count = refl; added = λ i before after low was is. absurd (omega (arith, low)); same = λ i high. refl }

pub so_far-more : (By : ℕ → Sha256Stream → Sha256Stream → Type 0) (old now : List Sha256Stream) (done : ℕ) (x next : Sha256Stream) → HaveSoFar By old now done
    → slice_get now done ≡ Some x → By done x next → HaveSoFar By old (set now done next) (done + 1)
so_far-more By old now done x next far here more = record {
  count = length-set now done next ∙ far.count;
  added = λ i before after low was is. elim (cases_eq i done) [
    | inl e ↦ (let b : x ≡ before = same_Some x before (sym here ∙ far.same done (omega arith) ∙ ap (slice_get old) (sym e) ∙ was) in
        let a : next ≡ after = same_Some next after (sym (get_set now done next x here) ∙ ap (slice_get (set now done next)) (sym e) ∙ is) in
        subst (λ n. By n before after) (sym e) (subst (λ y. By done y after) b (subst (By done x) a more)))
    | inr apart ↦ far.added i before after (omega (arith, low, apart)) was (sym (get_set_other now done i next apart) ∙ is)
  ];
  same = λ i high. let apart : i ≢ done = omega (arith, high) in get_set_other now done i next apart ∙ far.same i (omega (arith, high));
}

-- the same by another relation
pub so_far-as : (By As : ℕ → Sha256Stream → Sha256Stream → Type 0) (old now : List Sha256Stream) (done : ℕ)
    → ((i : ℕ) (before after : Sha256Stream) → i < done → By i before after → As i before after) → HaveSoFar By old now done → HaveSoFar As old now done
so_far-as By As old now done turn far = record {
  count = far.count;
  added = λ i before after low was is. turn i before after low (far.added i before after low was is);
  same = far.same;
}

-- what a hasher has become
pub become : (By : ℕ → Sha256Stream → Sha256Stream → Type 0) (old now : List Sha256Stream) (n j : ℕ) (before : Sha256Stream) → HaveSoFar By old now n
    → length now ≡ 8 → j < 8 → 8 ≤ n → slice_get old j ≡ Some before → (after : Sha256Stream) × (slice_get now j ≡ Some after) × By j before after
become By old now n j before far long low all was =
    let x = get_of now j (omega arith) in
    (x.0, x.1, far.added j before x.0 (omega arith) was x.1)

-- a hasher was given the beginning of its piece, up to the edge of a group or to its end
pub record IsFilled (start : ℕ) (piece : List ℕ) (before after : Sha256Stream) : Type 0 where
  pub given : (m : List ℕ) → Holds before m → Holds after (m ++ take start piece)
  pub edge : (m : List ℕ) → Holds before m → (start ≡ length piece) ⊎ ((length m + start) % 512 ≡ 0)

-- a hasher's hash value has taken in groups, where its message ended at the edge of a group
abbrev pub TakesHash : List ℕ → ℕ → ℕ → Sha256Stream → Sha256Stream → Type 0
TakesHash hashes count j before after = (m groups : List ℕ) → Holds before m → length m % 512 ≡ 0 → length groups ≡ 512 * count
    → take 8 (drop (8 * j) hashes) ≡ hash_after before.hash groups (8 * count) → Holds after (m ++ groups)

-- a hasher was given its piece from a byte on
abbrev pub TakesRest : (ℕ → List ℕ) → ℕ → ℕ → Sha256Stream → Sha256Stream → Type 0
TakesRest piece n j before after = (m : List ℕ) → Holds before m → Holds after (m ++ drop n (piece j))

-- a piece in three parts
pub three_parts : (m p : List ℕ) (a n : ℕ) → ((m ++ take a p) ++ take n (drop a p)) ++ drop n (drop a p) ≡ m ++ p
three_parts m p a n =
    append_assoc (m ++ take a p) (take n (drop a p)) (drop n (drop a p))
    ∙ ap (λ (l : List ℕ). (m ++ take a p) ++ l) (take-append-drop n (drop a p))
    ∙ append_assoc m (take a p) (drop a p) ∙ ap (λ (l : List ℕ). m ++ l) (take-append-drop a p)

-- and in two
pub two_parts : (m p : List ℕ) (a n : ℕ) → n ≡ 0 → (m ++ take a p) ++ drop n (drop a p) ≡ m ++ p
two_parts m p a n none =
    ap (λ (k : ℕ). (m ++ take a p) ++ drop k (drop a p)) none
    ∙ append_assoc m (take a p) (drop a p) ∙ ap (λ (l : List ℕ). m ++ l) (take-append-drop a p)

-- a start more
pub within_more : (piece : ℕ → List ℕ) (starts : List ℕ) (j start : ℕ) → length starts ≡ 8 → j < 8 → ((k : ℕ) → k < j → get_or starts k 0 ≤ length (piece k))
    → start ≤ length (piece j) → (k : ℕ) → k < j + 1 → get_or (set starts j start) k 0 ≤ length (piece k)
within_more piece starts j start long below before here k low = elim (cases_eq k j) [
  | inl e ↦ rw (e, get_or-set_same starts j start 0 (omega arith)) here
  | inr apart ↦ rw (get_or-set_other starts j k start 0 apart) (before k (omega arith))
]

pub filled_more : (piece : ℕ → List ℕ) (starts : List ℕ) (old now : List Sha256Stream) (j start : ℕ) (x next : Sha256Stream) → length starts ≡ 8 → j < 8
    → HaveSoFar (λ k. IsFilled (get_or starts k 0) (piece k)) old now j → slice_get now j ≡ Some x
    → ((m : List ℕ) → Holds x m → Holds next (m ++ take start (piece j)))
    → ((m : List ℕ) → Holds x m → (start ≡ length (piece j)) ⊎ ((length m + start) % 512 ≡ 0))
    → HaveSoFar (λ k. IsFilled (get_or (set starts j start) k 0) (piece k)) old (set now j next) (j + 1)
filled_more piece starts old now j start x next long below far here given edge =
    so_far-more (λ k. IsFilled (get_or (set starts j start) k 0) (piece k)) old now j x next
    (so_far-as (λ k. IsFilled (get_or starts k 0) (piece k)) (λ k. IsFilled (get_or (set starts j start) k 0) (piece k)) old now j
    (λ i before after low filled. let apart : i ≢ j = omega arith in subst (λ n. IsFilled n (piece i) before after) (sym (get_or-set_other starts j i start 0 apart)) filled)
    far)
    here
    (subst (λ n. IsFilled n (piece j) x next) (sym (get_or-set_same starts j start 0 (omega arith))) (record { given = given; edge = edge }))
