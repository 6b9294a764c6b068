-- The bytes of a message with its padding, and its blocks.
use Rattle.std.proofs.Common.{◌≡◌, ℕ, suc, ◌+◌, ◌-◌, ◌*◌, ◌/◌, ◌%◌, ◌^◌, ◌<◌, ◌≤◌, List, ◌++◌, length, get_or, take, drop, replicate, refl, sym, ap, ext_get_or, ◌∙◌, arith, length-append, length-take-le}
use Rattle.std.specs.Int.{to_be_bytes, w64}
use Rattle.std.proofs.lemmas.List.{get_or_append_left, get_or-append_right}
use Rattle.std.proofs.lemmas.Simd.{get_or-chunk, length-chunk, length-replicate, get_or-replicate}
use Rattle.lemmas.proofs.Eights.{by_eight}
use Rattle.sha2.specs.Sha256.{padded_message, padding, word_at}
use Rattle.sha2_lanes.specs.Lanes.{AreWords}

module _ (p t : List ℕ) where
  abbrev n : ℕ
  n = length (p ++ t)

  abbrev zeros : ℕ
  zeros = (119 - n % 64) % 64

  abbrev filling : List ℕ
  filling = replicate zeros 0

  abbrev last : List ℕ
  last = to_be_bytes w64 (n * 8 % 2 ^ 64)

  pub length_padded : length (padded_message (p ++ t)) ≡ (length p + length t + 72) / 64 * 64
  length_padded =
      let l : n ≡ length p + length t = length-append p t in
      let z : length filling ≡ zeros = length-replicate zeros 0 in
      let e : length (filling ++ last) ≡ zeros + 8 = length-append filling last ∙ ap (λ (k : ℕ). k + 8) z in
      length-append (p ++ t) (padding n) ∙ omega arith

  pub byte_prefix : (q : ℕ) → q < length p → get_or (padded_message (p ++ t)) q 0 ≡ get_or p q 0
  byte_prefix q below =
      get_or_append_left (p ++ t) (padding n) 0 q (omega (arith, length-append p t)) ∙ get_or_append_left p t 0 q below

  pub byte_text : (q : ℕ) → length p ≤ q → q < length p + length t → get_or (padded_message (p ++ t)) q 0 ≡ get_or t (q - length p) 0
  byte_text q above below =
      get_or_append_left (p ++ t) (padding n) 0 q (omega (arith, length-append p t)) ∙ get_or-append_right p t (length p) q 0 refl above

  pub byte_mark : (q : ℕ) → q ≡ length p + length t → get_or (padded_message (p ++ t)) q 0 ≡ 0x80
  byte_mark q here =
      let l : n ≡ length p + length t = length-append p t in
      let e : q - n ≡ 0 = omega arith in
      get_or-append_right (p ++ t) (padding n) n q 0 refl (omega arith) ∙ ap (λ (k : ℕ). get_or (padding n) k 0) e

  pub byte_zero : (q : ℕ) → length p + length t < q → q + 8 < (length p + length t + 72) / 64 * 64 → get_or (padded_message (p ++ t)) q 0 ≡ 0
  byte_zero q above below =
      let l : n ≡ length p + length t = length-append p t in
      let e : q - n ≡ suc (q - n - 1) = omega arith in
      let z : length filling ≡ zeros = length-replicate zeros 0 in
      let within : q - n - 1 < zeros = omega arith in
      get_or-append_right (p ++ t) (padding n) n q 0 refl (omega arith)
      ∙ ap (λ (k : ℕ). get_or (padding n) k 0) e
      ∙ get_or_append_left filling last 0 (q - n - 1) (omega arith)
      ∙ get_or-replicate zeros (q - n - 1) 0 0 within

  pub byte_length : (q : ℕ) → length p + length t < q → (length p + length t + 72) / 64 * 64 ≤ q + 8
      → get_or (padded_message (p ++ t)) q 0 ≡ get_or (to_be_bytes w64 ((length p + length t) * 8 % 2 ^ 64)) (q + 8 - (length p + length t + 72) / 64 * 64) 0
  byte_length q above below =
      let l : n ≡ length p + length t = length-append p t in
      let e : q - n ≡ suc (q - n - 1) = omega arith in
      let z : length filling ≡ zeros = length-replicate zeros 0 in
      let le : zeros ≤ q - n - 1 = omega arith in
      let position : q - n - 1 - zeros ≡ q + 8 - (length p + length t + 72) / 64 * 64 = omega arith in
      get_or-append_right (p ++ t) (padding n) n q 0 refl (omega arith)
      ∙ ap (λ (k : ℕ). get_or (padding n) k 0) e
      ∙ get_or-append_right filling last zeros (q - n - 1) 0 z le
      ∙ (λ i. get_or (to_be_bytes w64 (l i * 8 % 2 ^ 64)) (position i) 0)

-- what a part of a list was overwritten with
pub get_or-overwritten : {X : Type 0} (a i : ℕ) (xs ys rest : List X) (d : X) → a ≤ i → i < a + length ys
    → a ≤ length xs → get_or (take a xs ++ (ys ++ rest)) i d ≡ get_or ys (i - a) d
get_or-overwritten a i xs ys rest d low high room =
    let l : length (take a xs) ≡ a = length-take-le a xs room in
    get_or-append_right (take a xs) (ys ++ rest) a i d l low ∙ get_or_append_left ys rest d (i - a) (omega arith)

-- two parts that have the same bytes
pub same_part : (xs ys : List ℕ) (a b : ℕ) → a + 64 ≤ length xs → b + 64 ≤ length ys → ((i : ℕ) → i < 64 → get_or xs (a + i) 0 ≡ get_or ys (b + i) 0)
    → take 64 (drop a xs) ≡ take 64 (drop b ys)
same_part xs ys a b ra rb same =
    let la : length (take 64 (drop a xs)) ≡ 64 = length-chunk a 64 xs ra in
    let lb : length (take 64 (drop b ys)) ≡ 64 = length-chunk b 64 ys rb in
    ext_get_or 0 (take 64 (drop a xs)) (take 64 (drop b ys)) (la ∙ sym lb)
    (λ i below.
    let low : i < 64 = omega arith in
    get_or-chunk a 64 xs i 0 low ∙ same i low ∙ sym (get_or-chunk b 64 ys i 0 low))

-- the words of the same blocks
pub same_words : (x y : ℕ → List ℕ) (w : List (List ℕ)) → ((j : ℕ) → j < 8 → x j ≡ y j) → AreWords x w → AreWords y w
same_words x y w same are = record {
  vectors = are.vectors;
  each = λ j k below within. are.each j k below within ∙ ap (λ (b : List ℕ). word_at b (4 * k)) (same j below);
}

-- the same, lane by lane
pub same_eight : {x : ℕ → List ℕ} {w : List (List ℕ)} (y : ℕ → List ℕ) → AreWords x w
    → x 0 ≡ y 0 → x 1 ≡ y 1 → x 2 ≡ y 2 → x 3 ≡ y 3 → x 4 ≡ y 4 → x 5 ≡ y 5 → x 6 ≡ y 6 → x 7 ≡ y 7 → AreWords y w
same_eight {x} {w} y are e0 e1 e2 e3 e4 e5 e6 e7 =
    same_words x y w (λ j below. by_eight (λ q. x q ≡ y q) e0 e1 e2 e3 e4 e5 e6 e7 j below) are
