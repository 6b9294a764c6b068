-- Sizes rounded up, and which geometries there are.
use Rattle.std.proofs.Common.{◌≡◌, ℕ, ◌+◌, ◌*◌, ◌/◌, ◌%◌, ◌^◌, ◌<◌, ◌≤◌, min, inl, inr, ap, refl, sym, subst, ◌∙◌, arith}
use Rattle.std.specs.Int.{div_ceil}
use Rattle.std.proofs.Math.Nat.{dvd-mul_left_of_dvd, mul-le-mul_right, mul-mod_left, mul-div_cancel, min-eq_left}
use Rattle.std.proofs.lemmas.Nat.Gcd.{dvd_of_mod-eq-zero, mod-eq-zero_of_dvd}
use Rattle.std.proofs.lemmas.Bool.{cases_lt}
use Rattle.std.proofs.lemmas.Nat.{div-add-mod'}
use Rattle.std.proofs.lemmas.Grind.{div_ceil_times}
use Rattle.lemmas.proofs.Numbers.{div_ceil_le}
use Rattle.ueb.specs.Shape.{rounded_up}
use Rattle.ueb.specs.Limits.{max_file_size, max_segment_size, max_segments}
use Rattle.share_layout.specs.Geometry.{Geometry, geometry_of, geometry_with, max_padded, segment_count, share_data_size, with_padding, AreParameters, HasGeometry, IsGeometry}

-- nothing is above what it is rounded up to
pub rounded_up_above : (n k : ℕ) → 0 < k → n ≤ rounded_up n k
rounded_up_above n k some = omega (arith, (div_ceil_times n k some).0)

pub rounded_up_le : (m n k : ℕ) → 0 < k → m ≤ n → rounded_up m k ≤ rounded_up n k
rounded_up_le m n k some le = mul-le-mul_right k (div_ceil_le m n k some le)

-- no more pieces than hold the whole
pub ceil_most : (n k m : ℕ) → 0 < k → n ≤ m * k → div_ceil n k ≤ m
ceil_most n k m some fits =
    elim (cases_lt m (div_ceil n k)) [
      | inl above ↦ absurd (omega (arith, mul-le-mul_right {m = m + 1} {n = div_ceil n k} k (omega arith), (div_ceil_times n k some).1, fits))
      | inr below ↦ below
    ]

-- a multiple stays as it is
pub rounded_up_multiple : (n k : ℕ) → n % k ≡ 0 → rounded_up n k ≡ n
rounded_up_multiple n k multiple =
    let q : div_ceil n k ≡ n / k = omega arith in
    ap (λ d. d * k) q ∙ omega (arith, div-add-mod' n k)

-- what is rounded up stays as it is
pub rounded_up_again : (n k : ℕ) → rounded_up (rounded_up n k) k ≡ rounded_up n k
rounded_up_again n k = rounded_up_multiple (rounded_up n k) k (mul-mod_left (div_ceil n k) k)

-- a multiple that is not below is not below what is rounded up
pub rounded_up_within : (n m k : ℕ) → 0 < k → m % k ≡ 0 → n ≤ m → rounded_up n k ≤ m
rounded_up_within n m k some multiple le = omega (arith, rounded_up_le n m k some le, rounded_up_multiple m k multiple)

-- what is rounded up is so many times the divisor
pub rounded_up-div : (n k : ℕ) → 0 < k → rounded_up n k / k ≡ div_ceil n k
rounded_up-div n k some = mul-div_cancel (div_ceil n k) some

max_padded_is : (k : ℕ) → max_padded k ≡ rounded_up max_file_size k
unfolding max_padded
max_padded_is k = refl

-- no file is longer than the longest text with its padding
pub file_fits : (n k : ℕ) → 0 < k → n ≤ max_file_size → n ≤ max_padded k
file_fits n k some low = omega (arith, low, rounded_up_above max_file_size k some, max_padded_is k)

-- a file that has a geometry has this one
pub is_geometry : (size needed total max : ℕ) → HasGeometry size needed total max → IsGeometry (geometry_of size needed total max)
is_geometry size needed total max h =
    let some = h.parameters.some_needed in record {
      some = h.parameters.some;
      not_large = file_fits size needed some h.not_large;
      some_needed = some;
      enough = h.parameters.enough;
      shares = h.parameters.shares;
      some_segment = omega (arith, (div_ceil_times (min max size) needed some).0, h.parameters.some, h.parameters.some_max);
      multiple = mul-mod_left (div_ceil (min max size) needed) needed;
      segment_not_large = rounded_up_le (min max size) max_segment_size needed some (omega (arith, h.parameters.max_not_large));
      within = rounded_up_le (min max size) size needed some (omega arith);
      few = h.few;
    }

-- the same of a segment size that is found to be that
pub is_geometry_with : (size needed total max segment : ℕ) → AreParameters size needed total max → size ≤ max_file_size
    → segment ≡ rounded_up (min max size) needed → div_ceil size segment ≤ max_segments
    → IsGeometry (geometry_with size needed total segment)
is_geometry_with size needed total max segment p large same few =
    let few' : div_ceil size (rounded_up (min max size) needed) ≤ max_segments = subst (λ s. div_ceil size s ≤ max_segments) same few in
    subst (λ s. IsGeometry (geometry_with size needed total s)) (sym same)
    (is_geometry size needed total max (record { parameters = p; not_large = large; few = few' }))

-- the segment size of a geometry, as a greatest length, gives itself
same_segment_size : (g : Geometry) → IsGeometry g → rounded_up (min g.segment_size g.size) g.needed ≡ g.segment_size
same_segment_size g v =
    elim (cases_lt g.size g.segment_size) [
      | inl short ↦
          let low = rounded_up_le g.size g.segment_size g.needed v.some_needed (omega arith) in
          let same = rounded_up_multiple g.segment_size g.needed v.multiple in
          let least : min g.segment_size g.size ≡ g.size = omega arith in
          ap (λ n. rounded_up n g.needed) least ∙ omega (arith, low, same, v.within)
      | inr long ↦ ap (λ n. rounded_up n g.needed) (min-eq_left long) ∙ rounded_up_multiple g.segment_size g.needed v.multiple
    ]

pub gives_itself : (g : Geometry) → IsGeometry g → g.size ≤ max_file_size → g.segment_size ≤ max_segment_size
    → HasGeometry g.size g.needed g.total g.segment_size × (geometry_of g.size g.needed g.total g.segment_size ≡ g)
gives_itself g v large low =
    let e = same_segment_size g v in
    let same : geometry_of g.size g.needed g.total g.segment_size ≡ g =
    ap (geometry_with g.size g.needed g.total) e in (
      record {
        parameters = record { some = v.some; some_needed = v.some_needed; enough = v.enough; shares = v.shares; some_max = v.some_segment; max_not_large = low };
        not_large = large;
        few = omega (arith, ap (λ h. segment_count h) same, v.few);
      },
      same,
    )

-- ---- how long a text and its blocks are

pub size_low : (g : Geometry) → IsGeometry g → g.size < 2 ^ 40 + 256
size_low g v = omega (arith, v.not_large, max_padded_is g.needed, (div_ceil_times max_file_size g.needed v.some_needed).1, v.enough, v.shares)

pub share_low : (g : Geometry) → IsGeometry g → share_data_size g ≤ 2 ^ 40
share_low g v =
    let most : div_ceil max_file_size g.needed ≤ max_file_size =
    ceil_most max_file_size g.needed max_file_size v.some_needed (omega (arith, mul-le-mul_right {m = 1} {n = g.needed} max_file_size v.some_needed)) in
    omega (arith, most, ceil_most g.size g.needed (div_ceil max_file_size g.needed) v.some_needed (omega (arith, v.not_large, max_padded_is g.needed)))

-- ---- the text with its padding

module _ (g : Geometry) (v : IsGeometry g) where
  -- the padding ends where the last segment would, or before
  pub padding_within : rounded_up g.size g.needed ≤ segment_count g * g.segment_size
  padding_within =
      let multiple : segment_count g * g.segment_size % g.needed ≡ 0 =
      mod-eq-zero_of_dvd g.needed (dvd-mul_left_of_dvd g.needed (dvd_of_mod-eq-zero g.needed v.multiple) (segment_count g)) in
      rounded_up_within g.size (segment_count g * g.segment_size) g.needed v.some_needed multiple (div_ceil_times g.size g.segment_size v.some_segment).0

  -- so there are as many segments
  pub padding_count : segment_count (with_padding g) ≡ segment_count g
  padding_count =
      let n : ℕ = segment_count g in
      let above : n ≤ segment_count (with_padding g) =
      div_ceil_le g.size (rounded_up g.size g.needed) g.segment_size v.some_segment (rounded_up_above g.size g.needed v.some_needed) in
      omega (arith, above, ceil_most (rounded_up g.size g.needed) g.segment_size n v.some_segment padding_within)

  pub is_padded : IsGeometry (with_padding g)
  is_padded = record {
    some = omega (arith, v.some, rounded_up_above g.size g.needed v.some_needed);
    not_large = omega (arith, rounded_up_le g.size (rounded_up max_file_size g.needed) g.needed v.some_needed (omega (arith, v.not_large, max_padded_is g.needed)), rounded_up_again max_file_size g.needed, max_padded_is g.needed);
    some_needed = v.some_needed;
    enough = v.enough;
    shares = v.shares;
    some_segment = v.some_segment;
    multiple = v.multiple;
    segment_not_large = v.segment_not_large;
    within = omega (arith, v.within, rounded_up_again g.size g.needed);
    few = omega (arith, v.few, padding_count);
  }
