-- A padded segment is long enough for the segment.
use Rattle.std.proofs.Common.{◌≡◌, ℕ, ◌+◌, ◌-◌, ◌*◌, ◌≤◌, inl, inr, ap, ◌∙◌, arith}
use Rattle.std.proofs.lemmas.Grind.{div_ceil_times}
use Rattle.std.proofs.lemmas.Bool.{cases_lt}
use Rattle.std.proofs.lemmas.Nat.Gcd.{dvd_of_mod-eq-zero}
use Rattle.std.proofs.Math.Nat.{add-mul, div-mul_cancel, mul_assoc, mul_comm, mul-le-mul_right}
use Rattle.share_layout.specs.Geometry.{Geometry, IsGeometry, block_size, share_data_size}
use Rattle.share_layout.specs.Pieces.{block_length, segment_length}

pub covers : (g : Geometry) (number : ℕ) → IsGeometry g → segment_length g number ≤ g.needed * block_length g number
covers g number valid =
    let m : ℕ = block_length g number in
    let bs : ℕ = block_size g in
    let sd : ℕ = share_data_size g in
    let whole : bs * g.needed ≡ g.segment_size = div-mul_cancel g.needed (dvd_of_mod-eq-zero g.needed valid.multiple) in
    let over : g.size ≤ sd * g.needed = (div_ceil_times g.size g.needed valid.some_needed).0 in
    let turn : g.needed * m ≡ m * g.needed = mul_comm g.needed m in
    elim (cases_lt m bs) [
      | inl short ↦ (let is : m ≡ sd - number * bs = omega (arith, short) in
          let reach : sd ≤ m + number * bs = omega (arith, is) in
          let times : sd * g.needed ≤ (m + number * bs) * g.needed = mul-le-mul_right g.needed reach in
          let split : (m + number * bs) * g.needed ≡ m * g.needed + number * bs * g.needed = add-mul m (number * bs) g.needed in
          let rest : number * bs * g.needed ≡ number * g.segment_size = mul_assoc number bs g.needed ∙ ap (λ n. number * n) whole in
          omega (arith, over, times, split, rest, turn))
      | inr long ↦ (let is : m ≡ bs = omega (arith, long) in
          let full : m * g.needed ≡ g.segment_size = ap (λ n. n * g.needed) is ∙ whole in
          omega (arith, full, turn))
    ]
