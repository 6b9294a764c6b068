-- Bits of bytes that change places.
use Rattle.std.proofs.Common.{◌≡◌, ℕ, ◌+◌, ◌-◌, ◌*◌, ◌/◌, ◌%◌, ◌^◌, ◌<◌, ◌==◌, if◌then◌else◌, List, length, get_or, replicate, bit_and, bit_or, refl, ap, ◌∙◌, arith, div-le_self}
use Rattle.std.specs.Int.{bit_at}
use Rattle.std.proofs.lemmas.Nat.Bits.{bit_at_and, bit_at_or}
use Rattle.std.proofs.lemmas.Simd.{length-zip2, get_or-zip2, get_or-replicate}
use Rattle.lemmas.proofs.Eights.{by_eight}
use lib.Bits.{and_le_r, or_lt}
use lib.Lanes.{zip2}

-- a lane of two vectors, and of one and a splat
pub lane : (f : ℕ → ℕ → ℕ) (xs ys : List ℕ) (p : ℕ) → length xs ≡ 32 → length ys ≡ 32 → p < 32
    → get_or (zip2 f xs ys) p 0 ≡ f (get_or xs p 0) (get_or ys p 0)
lane f xs ys p long as_long below = get_or-zip2 f xs ys p 0 0 0 (omega arith) (omega arith)

pub lane_splat : (f : ℕ → ℕ → ℕ) (xs : List ℕ) (y p : ℕ) → length xs ≡ 32 → p < 32
    → get_or (zip2 f xs (replicate 32 y)) p 0 ≡ f (get_or xs p 0) y
lane_splat f xs y p long below = lane f xs (replicate 32 y) p long refl below ∙ ap (f (get_or xs p 0)) (get_or-replicate 32 p y 0 below)

pub long_both : (f : ℕ → ℕ → ℕ) (xs ys : List ℕ) → length xs ≡ 32 → length ys ≡ 32 → length (zip2 f xs ys) ≡ 32
long_both f xs ys long as_long = length-zip2 f xs ys (omega arith) ∙ long

abbrev shift_left : ℕ → ℕ → ℕ
shift_left a s = a * 2 ^ s % 2 ^ 8

abbrev shift_right : ℕ → ℕ → ℕ
shift_right a s = a / 2 ^ s

-- the bits of x that stay, and those of y that come up by s positions
abbrev pub first : ℕ → ℕ → ℕ → ℕ → ℕ
first s even x y = bit_or (bit_and x even) (bit_and y even * 2 ^ s % 2 ^ 8)

-- the bits of x that come down by s positions, and those of y that stay
abbrev pub second : ℕ → ℕ → ℕ → ℕ → ℕ
second s odd x y = bit_or (bit_and x odd / 2 ^ s) (bit_and y odd)

-- the same on vectors
module _ (s mask : ℕ) (low high : List ℕ) (long : length low ≡ 32) (as_long : length high ≡ 32) (p : ℕ) (below : p < 32) where
  pub first_lane : get_or (zip2 bit_or (zip2 bit_and low (replicate 32 mask)) (zip2 shift_left (zip2 bit_and high (replicate 32 mask)) (replicate 32 s))) p 0
      ≡ first s mask (get_or low p 0) (get_or high p 0)
  first_lane =
      let stays = zip2 bit_and low (replicate 32 mask) in
      let comes = zip2 bit_and high (replicate 32 mask) in
      let comes_long = long_both bit_and high (replicate 32 mask) as_long refl in
      lane bit_or stays (zip2 shift_left comes (replicate 32 s)) p (long_both bit_and low (replicate 32 mask) long refl) (long_both shift_left comes (replicate 32 s) comes_long refl) below
      ∙ (λ i. bit_or (lane_splat bit_and low mask p long below i)
      ((lane_splat shift_left comes s p comes_long below ∙ ap (λ (y : ℕ). shift_left y s) (lane_splat bit_and high mask p as_long below)) i))

  pub second_lane : get_or (zip2 bit_or (zip2 shift_right (zip2 bit_and low (replicate 32 mask)) (replicate 32 s)) (zip2 bit_and high (replicate 32 mask))) p 0
      ≡ second s mask (get_or low p 0) (get_or high p 0)
  second_lane =
      let stays = zip2 bit_and high (replicate 32 mask) in
      let comes = zip2 bit_and low (replicate 32 mask) in
      let comes_long = long_both bit_and low (replicate 32 mask) long refl in
      lane bit_or (zip2 shift_right comes (replicate 32 s)) stays p (long_both shift_right comes (replicate 32 s) comes_long refl) (long_both bit_and high (replicate 32 mask) as_long refl) below
      ∙ (λ i. bit_or ((lane_splat shift_right comes s p comes_long below ∙ ap (λ (y : ℕ). shift_right y s) (lane_splat bit_and low mask p long below)) i)
      (lane_splat bit_and high mask p as_long below i))

  pub bytes_below : mask < 256 → (get_or (zip2 bit_or (zip2 bit_and low (replicate 32 mask)) (zip2 shift_left (zip2 bit_and high (replicate 32 mask)) (replicate 32 s))) p 0 < 256)
  bytes_below small =
      let x = get_or low p 0 in
      let y = get_or high p 0 in
      let is = first_lane in
      let both = or_lt 8 (bit_and x mask) (bit_and y mask * 2 ^ s % 2 ^ 8) (omega (arith, and_le_r x mask)) (omega arith) in
      omega (arith, is, both)

  pub bytes_below_second : mask < 256 → (get_or (zip2 bit_or (zip2 shift_right (zip2 bit_and low (replicate 32 mask)) (replicate 32 s)) (zip2 bit_and high (replicate 32 mask))) p 0 < 256)
  bytes_below_second small =
      let x = get_or low p 0 in
      let y = get_or high p 0 in
      let is = second_lane in
      let both = or_lt 8 (bit_and x mask / 2 ^ s) (bit_and y mask) (omega (arith, and_le_r x mask, div-le_self (bit_and x mask) (2 ^ s))) (omega (arith, and_le_r y mask)) in
      omega (arith, is, both)

-- the vectors are whole
module _ (s mask : ℕ) (low high : List ℕ) (long : length low ≡ 32) (as_long : length high ≡ 32) where
  pub first_long : length (zip2 bit_or (zip2 bit_and low (replicate 32 mask)) (zip2 shift_left (zip2 bit_and high (replicate 32 mask)) (replicate 32 s))) ≡ 32
  first_long =
      let comes = zip2 bit_and high (replicate 32 mask) in
      long_both bit_or (zip2 bit_and low (replicate 32 mask)) (zip2 shift_left comes (replicate 32 s)) (long_both bit_and low (replicate 32 mask) long refl)
      (long_both shift_left comes (replicate 32 s) (long_both bit_and high (replicate 32 mask) as_long refl) refl)

  pub second_long : length (zip2 bit_or (zip2 shift_right (zip2 bit_and low (replicate 32 mask)) (replicate 32 s)) (zip2 bit_and high (replicate 32 mask))) ≡ 32
  second_long =
      let comes = zip2 bit_and low (replicate 32 mask) in
      long_both bit_or (zip2 shift_right comes (replicate 32 s)) (zip2 bit_and high (replicate 32 mask))
      (long_both shift_right comes (replicate 32 s) (long_both bit_and low (replicate 32 mask) long refl) refl) (long_both bit_and high (replicate 32 mask) as_long refl)

pub first_1 : (x y b : ℕ) → b < 8 → bit_at (first 1 85 x y) b ≡ (if b % 2 == 0 then bit_at x b else bit_at y (b - 1))
first_1 x y =
    let or = bit_at_or (bit_and x 85) (bit_and y 85 * 2 ^ 1 % 2 ^ 8) in
    let stays = bit_at_and x 85 in
    let comes = bit_at_and y 85 in
    by_eight (λ b. bit_at (first 1 85 x y) b ≡ (if b % 2 == 0 then bit_at x b else bit_at y (b - 1)))
    (omega (arith, or 0, stays 0))
    (omega (arith, or 1, stays 1, comes 0))
    (omega (arith, or 2, stays 2, comes 1))
    (omega (arith, or 3, stays 3, comes 2))
    (omega (arith, or 4, stays 4, comes 3))
    (omega (arith, or 5, stays 5, comes 4))
    (omega (arith, or 6, stays 6, comes 5))
    (omega (arith, or 7, stays 7, comes 6))

pub second_1 : (x y b : ℕ) → b < 8 → bit_at (second 1 170 x y) b ≡ (if b % 2 == 0 then bit_at x (b + 1) else bit_at y b)
second_1 x y =
    let or = bit_at_or (bit_and x 170 / 2 ^ 1) (bit_and y 170) in
    let comes = bit_at_and x 170 in
    let stays = bit_at_and y 170 in
    by_eight (λ b. bit_at (second 1 170 x y) b ≡ (if b % 2 == 0 then bit_at x (b + 1) else bit_at y b))
    (omega (arith, or 0, stays 0, comes 1))
    (omega (arith, or 1, stays 1, comes 2))
    (omega (arith, or 2, stays 2, comes 3))
    (omega (arith, or 3, stays 3, comes 4))
    (omega (arith, or 4, stays 4, comes 5))
    (omega (arith, or 5, stays 5, comes 6))
    (omega (arith, or 6, stays 6, comes 7))
    (omega (arith, or 7, stays 7, comes 8))

pub first_2 : (x y b : ℕ) → b < 8 → bit_at (first 2 51 x y) b ≡ (if b / 2 % 2 == 0 then bit_at x b else bit_at y (b - 2))
first_2 x y =
    let or = bit_at_or (bit_and x 51) (bit_and y 51 * 2 ^ 2 % 2 ^ 8) in
    let stays = bit_at_and x 51 in
    let comes = bit_at_and y 51 in
    by_eight (λ b. bit_at (first 2 51 x y) b ≡ (if b / 2 % 2 == 0 then bit_at x b else bit_at y (b - 2)))
    (omega (arith, or 0, stays 0))
    (omega (arith, or 1, stays 1))
    (omega (arith, or 2, stays 2, comes 0))
    (omega (arith, or 3, stays 3, comes 1))
    (omega (arith, or 4, stays 4, comes 2))
    (omega (arith, or 5, stays 5, comes 3))
    (omega (arith, or 6, stays 6, comes 4))
    (omega (arith, or 7, stays 7, comes 5))

pub second_2 : (x y b : ℕ) → b < 8 → bit_at (second 2 204 x y) b ≡ (if b / 2 % 2 == 0 then bit_at x (b + 2) else bit_at y b)
second_2 x y =
    let or = bit_at_or (bit_and x 204 / 2 ^ 2) (bit_and y 204) in
    let comes = bit_at_and x 204 in
    let stays = bit_at_and y 204 in
    by_eight (λ b. bit_at (second 2 204 x y) b ≡ (if b / 2 % 2 == 0 then bit_at x (b + 2) else bit_at y b))
    (omega (arith, or 0, stays 0, comes 2))
    (omega (arith, or 1, stays 1, comes 3))
    (omega (arith, or 2, stays 2, comes 4))
    (omega (arith, or 3, stays 3, comes 5))
    (omega (arith, or 4, stays 4, comes 6))
    (omega (arith, or 5, stays 5, comes 7))
    (omega (arith, or 6, stays 6, comes 8))
    (omega (arith, or 7, stays 7, comes 9))

pub first_4 : (x y b : ℕ) → b < 8 → bit_at (first 4 15 x y) b ≡ (if b / 4 % 2 == 0 then bit_at x b else bit_at y (b - 4))
first_4 x y =
    let or = bit_at_or (bit_and x 15) (bit_and y 15 * 2 ^ 4 % 2 ^ 8) in
    let stays = bit_at_and x 15 in
    let comes = bit_at_and y 15 in
    by_eight (λ b. bit_at (first 4 15 x y) b ≡ (if b / 4 % 2 == 0 then bit_at x b else bit_at y (b - 4)))
    (omega (arith, or 0, stays 0))
    (omega (arith, or 1, stays 1))
    (omega (arith, or 2, stays 2))
    (omega (arith, or 3, stays 3))
    (omega (arith, or 4, stays 4, comes 0))
    (omega (arith, or 5, stays 5, comes 1))
    (omega (arith, or 6, stays 6, comes 2))
    (omega (arith, or 7, stays 7, comes 3))

pub second_4 : (x y b : ℕ) → b < 8 → bit_at (second 4 240 x y) b ≡ (if b / 4 % 2 == 0 then bit_at x (b + 4) else bit_at y b)
second_4 x y =
    let or = bit_at_or (bit_and x 240 / 2 ^ 4) (bit_and y 240) in
    let comes = bit_at_and x 240 in
    let stays = bit_at_and y 240 in
    by_eight (λ b. bit_at (second 4 240 x y) b ≡ (if b / 4 % 2 == 0 then bit_at x (b + 4) else bit_at y b))
    (omega (arith, or 0, stays 0, comes 4))
    (omega (arith, or 1, stays 1, comes 5))
    (omega (arith, or 2, stays 2, comes 6))
    (omega (arith, or 3, stays 3, comes 7))
    (omega (arith, or 4, stays 4, comes 8))
    (omega (arith, or 5, stays 5, comes 9))
    (omega (arith, or 6, stays 6, comes 10))
    (omega (arith, or 7, stays 7, comes 11))
