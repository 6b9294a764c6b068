-- The lengths of segments and blocks.
use Rattle.std.proofs.Common.{◌≡◌, ℕ, zero, suc, ◌+◌, ◌-◌, ◌*◌, ◌/◌, ◌%◌, ◌<◌, ◌≤◌, false, List, [], take, drop, min, get_or, inl, inr, ap, sym, refl, ◌∙◌, arith}
use Rattle.std.specs.Int.{div_ceil}
use Rattle.std.proofs.Math.Nat.{add-mul-div_right, add-mul-mod_self_right, mul-le-mul_right, mul_assoc, add-mul, div-mul_cancel, dvd_of_mod-eq-zero, suc-mul, mod-lt}
use Rattle.std.specs.Prelude.{◌==◌, if◌then◌else◌}
use Rattle.std.proofs.lemmas.Bool.{cases_lt}
use Rattle.std.proofs.lemmas.Bool.Decides.{nat_tests}
use Rattle.std.proofs.lemmas.Grind.{div_ceil_times}
use Rattle.std.proofs.lemmas.List.{drop-drop}
use Rattle.std.proofs.lemmas.Nat.{div-add-mod'}
use Rattle.lemmas.proofs.Numbers.{div_ceil_le}
use Rattle.ueb.specs.Shape.{tail_size}
use Rattle.share_layout.specs.Geometry.{Geometry, IsGeometry, block_size, segment_count, share_data_size, tail_length}
use Rattle.share_layout.specs.Pieces.{HaveCutLengths, block_length, pieces, segment_length}
use Rattle.share_layout.proofs.GeometryLemmas.{rounded_up-div}

-- so many whole segments are fewer bytes than the file has
pub whole_segments : (size segment number : ℕ) → 0 < segment → number < div_ceil size segment → number * segment < size
whole_segments size segment number some there =
    let t = div_ceil_times size segment some in
    let low : (number + 1) * segment ≤ div_ceil size segment * segment = mul-le-mul_right segment (omega (arith, there)) in
    omega (arith, t.1, low, add-mul number 1 segment)

-- what is left is rounded up to what is left of the whole
div_ceil_left : (size k n : ℕ) → 0 < k → n * k ≤ size → div_ceil (size - n * k) k ≡ div_ceil size k - n
div_ceil_left size k n some low =
    let e : size ≡ (size - n * k) + n * k = omega (arith, low) in
    let q : size / k ≡ (size - n * k) / k + n = ap (λ s. s / k) e ∙ add-mul-div_right (size - n * k) n some in
    let r : size % k ≡ (size - n * k) % k = ap (λ s. s % k) e ∙ add-mul-mod_self_right (size - n * k) n k in
    omega (arith, q, r)

not_zero : (r : ℕ) → (suc r == 0) ≡ false
not_zero r = grind (arith, nat_tests)

tail_if : (r segment m : ℕ) → (r ≡ 0 → m ≡ segment) → (0 < r → m ≡ r) → m ≡ (if r == 0 then segment else r)
tail_if zero segment m whole left = whole refl
tail_if (suc r) segment m whole left = rw (not_zero r) (left (omega arith))

-- the last segment is what is left, or a whole one
last_length : (size segment number : ℕ) → 0 < segment → number * segment < size → number + 1 ≡ div_ceil size segment
    → min segment (size - number * segment) ≡ tail_size size segment
last_length size segment number some low end =
    let q : ℕ = size / segment in
    let r : ℕ = size % segment in
    let split = div-add-mod' size segment in
    let small : r < segment = mod-lt size some in
    tail_if r segment _
    (λ none.
    let last : number + 1 ≡ q = omega (arith, end, none) in
    omega (arith, split, none, ap (λ n. n * segment) last, add-mul number 1 segment))
    (λ more.
    let last : number ≡ q = omega (arith, end, more) in
    omega (arith, split, small, ap (λ n. n * segment) last))

pub cut_lengths : (g : Geometry) (number : ℕ) → IsGeometry g → number < segment_count g → HaveCutLengths g number
cut_lengths g number valid there =
    let k = g.needed in
    let seg = g.segment_size in
    let bs : ℕ = block_size g in
    let whole : bs * k ≡ seg = div-mul_cancel k (dvd_of_mod-eq-zero k valid.multiple) in
    let low : number * seg < g.size = whole_segments g.size seg number valid.some_segment there in
    let times : number * bs * k ≡ number * seg = mul_assoc number bs k ∙ ap (λ n. number * n) whole in
    let rest : div_ceil (g.size - number * seg) k ≡ share_data_size g - number * bs =
    ap (λ n. div_ceil (g.size - n) k) (sym times) ∙ div_ceil_left g.size k (number * bs) valid.some_needed (omega (arith, low, times)) in
    let one : div_ceil seg k ≡ bs = omega (arith, valid.multiple) in
    let shared : block_length g number ≡ div_ceil (segment_length g number) k =
    elim (cases_lt (g.size - number * seg) seg) [
      | inl short ↦
          let least : segment_length g number ≡ g.size - number * seg = omega (arith, short) in
          let below : div_ceil (g.size - number * seg) k ≤ div_ceil seg k = div_ceil_le (g.size - number * seg) seg k valid.some_needed (omega (arith, short)) in
          omega (arith, below, one, rest) ∙ sym (ap (λ n. div_ceil n k) least)
      | inr long ↦
          let least : segment_length g number ≡ seg = omega (arith, long) in
          let above : div_ceil seg k ≤ div_ceil (g.size - number * seg) k = div_ceil_le seg (g.size - number * seg) k valid.some_needed (omega (arith, long)) in
          omega (arith, above, one, rest) ∙ sym (ap (λ n. div_ceil n k) least)
    ] in
    let full : number + 1 < segment_count g → segment_length g number ≡ seg =
    λ more. omega (arith, whole_segments g.size seg (number + 1) valid.some_segment more, add-mul number 1 seg) in
    let last : number + 1 ≡ segment_count g → segment_length g number ≡ tail_length g = λ end. last_length g.size seg number valid.some_segment low end in
    record {
      segment = full;
      last_segment = last;
      block = λ more. shared ∙ ap (λ n. div_ceil n k) (full more) ∙ one;
      last_block = λ end. shared ∙ ap (λ n. div_ceil n k) (last end) ∙ sym (rounded_up-div (tail_length g) k valid.some_needed);
      shared = shared;
    }

-- a piece by its number
pub piece_at : (count size number : ℕ) (text : List ℕ) → number < count → get_or (pieces count size text) number [] ≡ take size (drop (number * size) text)
piece_at zero size number text inside = absurd (omega arith)
piece_at (suc n) size zero text inside = let none : 0 * size ≡ 0 = omega arith in rw none refl
piece_at (suc n) size (suc m) text inside =
    piece_at n size m (drop size text) (omega arith)
    ∙ ap (take size) (drop-drop (m * size) size text ∙ ap (λ k. drop k text) (sym (suc-mul m size ∙ omega arith)))
