-- Where an offset lies in the padded text of a file.
use Rattle.std.proofs.Common.{ℕ, ◌*◌, ◌/◌, ◌%◌, ◌<◌, ◌≤◌, inl, inr, arith}
use Rattle.std.proofs.Math.Nat.{mul-le-mul_right}
use Rattle.std.proofs.lemmas.Bool.{cases_lt}
use Rattle.std.proofs.lemmas.Nat.{div-add-mod', mod_below}
use Rattle.ueb.specs.Shape.{rounded_up}
use Rattle.share_layout.specs.Geometry.{Geometry, IsGeometry, segment_count}
use Rattle.share_layout.specs.Pieces.{block_length}
use Rattle.file_encoding.proofs.PaddedBelow.{padded_length}
use Rattle.share_layout.proofs.GeometryLemmas.{padding_within}

module _ (g : Geometry) (offset : ℕ) (valid : IsGeometry g) (low : offset < rounded_up g.size g.needed) where
  abbrev number : ℕ
  number = offset / g.segment_size

  -- in a segment
  pub in_segment : number < segment_count g
  in_segment =
      let parts = div-add-mod' offset g.segment_size in
      let within = padding_within g valid in
      elim (cases_lt number (segment_count g)) [
        | inl below ↦ below
        | inr over ↦ (let times : segment_count g * g.segment_size ≤ number * g.segment_size = mul-le-mul_right {m = segment_count g} {n = number} g.segment_size over in absurd (omega (arith, times, within, parts, low)))
      ]

  -- before the end of its padding
  pub in_padded : offset % g.segment_size < g.needed * block_length g number
  in_padded =
      let parts = div-add-mod' offset g.segment_size in
      let below : offset % g.segment_size < g.segment_size = mod_below offset g.segment_size valid.some_segment in
      omega (arith, padded_length g number valid, below, parts, low)

-- a segment with its padding has room where a whole segment has
pub segment_fits : (g : Geometry) (number : ℕ) → IsGeometry g → g.needed * block_length g number ≤ g.segment_size
segment_fits g number valid = omega (arith, padded_length g number valid)
