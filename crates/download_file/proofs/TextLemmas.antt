-- Texts that are cut into parts.
use Rattle.std.proofs.Common.{◌≡◌, ℕ, zero, suc, ◌+◌, ◌-◌, ◌*◌, ◌<◌, ◌≤◌, inl, inr, List, [], ◌++◌, length, take, drop, min, take-add, ap, sym, subst, ◌∙◌, arith, suc-mul}
use Rattle.std.proofs.Math.Nat.{add-mul, mul-le-mul_right}
use Rattle.std.proofs.lemmas.Bool.{cases_lt}
use Rattle.std.proofs.lemmas.List.{drop-append-le, drop-drop, drop-take, drop_at, length-append, length-drop, take-append-le, take-take, take_all}

-- a part that ends within the front of a text
pub part_in_front : (xs ys : List ℕ) (a w : ℕ) → a + w ≤ length xs → take w (drop a (xs ++ ys)) ≡ take w (drop a xs)
part_in_front xs ys a w within =
    ap (take w) (drop-append-le a xs ys (omega (arith, within)))
    ∙ take-append-le w (drop a xs) ys (omega (arith, within, length-drop a xs))

-- the part behind it
pub part_behind : (xs ys : List ℕ) (a w : ℕ) → length xs ≡ a → length ys ≤ w → take w (drop a (xs ++ ys)) ≡ ys
part_behind xs ys a w at short = ap (take w) (drop_at xs ys a at) ∙ take_all w ys short

-- a part of a part
pub part_of_part : (xs : List ℕ) (a w s n : ℕ) → s + n ≤ w → take n (drop s (take w (drop a xs))) ≡ take n (drop (a + s) xs)
part_of_part xs a w s n within =
    let e : w ≡ s + (w - s) = omega (arith, within) in
    ap (λ (m : ℕ). take n (drop s (take m (drop a xs)))) e
    ∙ ap (take n) (drop-take s (w - s) (drop a xs))
    ∙ take-take n (w - s) (drop s (drop a xs)) (omega (arith, within))
    ∙ ap (take n) (drop-drop s a xs)

-- two parts, one behind another
pub parts_joined : (xs : List ℕ) (a n m : ℕ) → take n (drop a xs) ++ take m (drop (a + n) xs) ≡ take (n + m) (drop a xs)
parts_joined xs a n m = ap (λ (l : List ℕ). take n (drop a xs) ++ take m l) (sym (drop-drop n a xs)) ∙ sym (take-add n m (drop a xs))

-- ---- a text of which each part is given

module _ (IsPart : ℕ → List ℕ → Type 0) (size w count : ℕ) (long : (n : ℕ) (part : List ℕ) → IsPart n part → length part ≡ min w (size - n * w))
    (within : (n : ℕ) → n < count → n * w < size) (parts : (n : ℕ) → n < count → (part : List ℕ) × IsPart n part) where
  -- its first so many parts
  record HasParts (n : ℕ) (text : List ℕ) : Type 0 where
    upto : length text ≡ min (n * w) size
    each : (k : ℕ) → k < n → IsPart k (take w (drop (k * w) text))

  text_of : (n : ℕ) → n ≤ count → (text : List ℕ) × HasParts n text
  text_of zero few = ([], record { upto = omega arith; each = λ k low. absurd (omega (arith, low)) })
  text_of (suc n) few =
      let front = text_of n (omega (arith, few)) in
      let here : n * w < size = within n (omega (arith, few)) in
      let next = parts n (omega (arith, few)) in
      let at : length front.0 ≡ n * w = front.1.upto ∙ omega (arith, here) in
      let as_long : length next.0 ≡ min w (size - n * w) = long n next.0 next.1 in (
        front.0 ++ next.0,
        record {
          upto = length-append front.0 next.0 ∙ omega (arith, at, as_long, here, suc-mul n w);
          each = λ k low. elim (cases_lt k n) [
            | inl before ↦
                let rows : (k + 1) * w ≤ n * w = mul-le-mul_right w (omega (arith, before)) in
                subst (IsPart k) (sym (part_in_front front.0 next.0 (k * w) w (omega (arith, rows, at, add-mul k 1 w)))) (front.1.each k before)
            | inr behind ↦
                let same : n ≡ k = omega (arith, low, behind) in
                subst (λ (m : ℕ). IsPart m (take w (drop (m * w) (front.0 ++ next.0)))) same
                (subst (IsPart n) (sym (part_behind front.0 next.0 (n * w) w at (omega (arith, as_long)))) next.1)
          ];
        },
      )

  -- all of it
  pub whole_text : size ≤ count * w → (text : List ℕ) × (length text ≡ size) × ((k : ℕ) → k < count → IsPart k (take w (drop (k * w) text)))
  whole_text all = let t = text_of count (omega arith) in (t.0, t.1.upto ∙ omega (arith, all), t.1.each)
