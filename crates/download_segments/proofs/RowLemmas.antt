-- Eight segments in a row, handed out one after another.
use Rattle.std.proofs.Common.{◌≡◌, ℕ, zero, suc, ◌+◌, ◌*◌, ◌/◌, ◌<◌, ◌≤◌, All, Bool, true, List, [], ◌∷◌, ◌++◌, map, Some, None, length, get_or, refl, ap, subst, sym, ◌∙◌, add-mul, arith}
use Rattle.std.specs.Prelude.{if◌then◌else◌, nat_lt}
use Rattle.std.specs.Int.{div_ceil}
use Rattle.std.proofs.lemmas.Bool.{lt-ltb}
use Rattle.std.proofs.lemmas.List.Elements.{All-tail}
use Rattle.std.proofs.Math.Nat.{mul-div_cancel, mul-le-mul_right}
use Rattle.merkle.specs.Partial.{known_siblings}
use Rattle.share_layout.specs.Geometry.{Geometry, segment_count}
use Rattle.share_layout.specs.Pieces.{segment_length}
use Rattle.download_parts.proofs.NumberLemmas.{below_ceil}
use Rattle.download_parts.specs.Trees.{FileTreesState, known_leaf}
use Rattle.download_segments.specs.Handout.{IsRowWanted, ProvesRow, first_handed_out, next_end, next_segment}
use Rattle.download_segments.specs.State.{HandoutState, IsHandout, ProvesSegment}
use Rattle.download_segments.proofs.HandoutLemmas.{next_follows, next_is, next_within, right_handed, valid_of}
use Rattle.download_segments.proofs.KnownLemmas.{known_segment}

-- each of these lists, by its position
pub nth_map : {X : Type 0} (f : X → List ℕ) (P : List ℕ → Type 0) (xs : List X) → All (λ x. P (f x)) xs → (i : ℕ) → i < length xs → P (get_or (map f xs) i [])
nth_map f P [] all i low = absurd (omega (arith, low))
nth_map f P (x ∷ xs) all zero low = all 0 x low
nth_map f P (x ∷ xs) all (suc i) low = nth_map f P xs (All-tail (λ x. P (f x)) x xs all) i (omega (arith, low))

-- one of these behind others
pub nth_behind : {X : Type 0} (f : X → List ℕ) (xs ys : List X) (x : X) → get_or (map f (xs ++ x ∷ ys)) (length xs) [] ≡ f x
nth_behind f [] ys x = refl
nth_behind f (y ∷ xs) ys x = nth_behind f xs ys x

-- the end of a segment of the row, and of the row
module _ (h : HandoutState) (number i : ℕ) (k : IsHandout h) (wanted : IsRowWanted h number) (low : i < 8) where
  abbrev seg : ℕ
  seg = h.geometry.segment_size

  row_end : (number + i) * seg + seg ≤ h.to
  row_end =
      let one : (number + i + 1) * seg ≡ (number + i) * seg + seg = omega (arith, add-mul (number + i) 1 seg) in
      let less = mul-le-mul_right seg (let l : number + i + 1 ≤ number + 8 = omega (arith, low) in l) in
      omega (arith, one, less, wanted)

  pub row_there : number + i < segment_count h.geometry
  row_there =
      let some = (valid_of h k).some_segment in
      let inside = k.inside in
      let end = row_end in
      subst (λ (n : ℕ). n < div_ceil h.geometry.size seg) (mul-div_cancel (number + i) some)
      (below_ceil h.geometry.size seg ((number + i) * seg) some (omega (arith, some, inside, end)))

  pub row_length : segment_length h.geometry (number + i) ≡ seg
  row_length =
      let inside = k.inside in
      let end = row_end in
      omega (arith, inside, end)

-- what holds of the state once some segments of the row are handed out
pub record IsRowState (h : HandoutState) (number n : ℕ) (m : HandoutState) : Type 0 where
  pub right : IsHandout m
  pub next : n < 8 → next_segment m ≡ Some (number + n)
  pub key : m.key ≡ h.key
  pub ueb : m.ueb ≡ h.ueb
  pub geometry : m.geometry ≡ h.geometry
  pub trees : m.trees ≡ h.trees
  pub to : m.to ≡ h.to

taken : (t : Bool) (n : ℕ) → t ≡ true → (if t then Some n else None) ≡ Some n
taken t n e = ap (λ (b : Bool). if b then Some n else None) e

-- a segment is proved then as before
pub still_proved : (h m : HandoutState) (number n i : ℕ) (segment : List ℕ) → IsRowState h number n m → ProvesSegment h i segment → ProvesSegment m i segment
still_proved h m number n i segment at proves = record {
  size = proves.size ∙ ap (λ (g : Geometry). segment_length g i) (sym at.geometry);
  known = ap (λ (t : FileTreesState). known_leaf t.ciphertext i) at.trees ∙ proves.known;
}

module _ (h : HandoutState) (number : ℕ) (segments : List (List ℕ)) (k : IsHandout h) (next : next_segment h ≡ Some number) (wanted : IsRowWanted h number)
    (proves : ProvesRow h number segments) where
  pub row_state : (n : ℕ) → n ≤ 8 → IsRowState h number n (first_handed_out h segments n)
  unfolding first_handed_out
  row_state zero low = record {
    right = k;
    next = λ _. next ∙ ap Some (let e : number ≡ number + 0 = omega arith in e);
    key = refl;
    ueb = refl;
    geometry = refl;
    trees = refl;
    to = refl;
  }
  row_state (suc n) low =
      let m : HandoutState = first_handed_out h segments n in
      let s : List ℕ = get_or segments n [] in
      let below : n < 8 = omega (arith, low) in
      let at : IsRowState h number n m = row_state n (omega (arith, low)) in
      let next_m : next_segment m ≡ Some (number + n) = at.next below in
      let proves_m : ProvesSegment m (number + n) s = still_proved h m number n (number + n) s at (proves n below) in
      let there = next_within m (number + n) at.right next_m in
      let by = known_segment m (number + n) s at.right there proves_m in
      record {
        right = right_handed m (number + n) s (known_siblings m.trees.ciphertext (number + n)) at.right next_m proves_m.size by;
        next = λ more.
            let seg : ℕ = h.geometry.segment_size in
            let some = (valid_of h k).some_segment in
            let end = row_end h number (n + 1) k wanted (omega (arith, more)) in
            let one : (number + n + 1) * seg ≡ (number + (n + 1)) * seg = ap (λ (x : ℕ). x * seg) (omega arith) in
            let number_is : m.reached / m.geometry.segment_size ≡ number + n = (next_is m (number + n) next_m).1 in
            let size : m.geometry.segment_size ≡ seg = ap (λ (g : Geometry). g.segment_size) at.geometry in
            let end_is : (m.reached / m.geometry.segment_size + 1) * m.geometry.segment_size ≡ (number + n + 1) * seg =
            ap (λ (x : ℕ). (x + 1) * m.geometry.segment_size) number_is ∙ ap (λ (x : ℕ). (number + n + 1) * x) size in
            let to = at.to in
            let before : next_end m < m.to = omega (arith, end_is, one, end, some, to) in
            next_follows m (number + n) s at.right next_m ∙ taken (nat_lt (next_end m) m.to) (number + n + 1) (lt-ltb (next_end m) m.to before)
            ∙ ap Some (let e : number + n + 1 ≡ number + suc n = omega arith in e);
        key = at.key;
        ueb = at.ueb;
        geometry = at.geometry;
        trees = at.trees;
        to = at.to;
      }
