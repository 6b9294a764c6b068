-- A piece of the data that comes to the end of a block ends with the end of one.
use Rattle.std.proofs.Common.{◌≡◌, ℕ, ◌+◌, ◌-◌, ◌*◌, ◌/◌, ◌<◌, ◌≤◌, min, inl, inr, ap, ◌∙◌, arith}
use Rattle.std.proofs.Math.Nat.{mul-le-mul_right}
use Rattle.std.proofs.lemmas.Bool.{cases_lt}
use Rattle.share_layout.specs.Geometry.{Geometry, block_size, share_data_size}
use Rattle.share_layout.specs.Layout.{header_size, layout_of}
use Rattle.download_parts.specs.Plan.{block_start, block_stop, data_end, data_pieces, data_offset, length_of, max_read, run_reads, run_size}
use Rattle.download_parts.specs.Range.{IsRange}
use Rattle.download_parts.specs.PlanLaws.{PiecesEndWithBlocks}
use Rattle.download_parts.specs.declared.part.Part.TheVariants.{Data}
use Rattle.download_parts.proofs.RunLemmas.{in_run, piece_at_run, piece_begin, run_from, runs}
use Rattle.download_parts.proofs.PartLemmas.{block_begins, block_some, data_inside, data_rises, begin_is, reads_most, reads_room, reads_some', size_some}

-- where a block ends
stop_is : (g : Geometry) (number : ℕ) → number * block_size g ≤ share_data_size g
    → block_stop g number ≡ header_size (layout_of g) + min ((number + 1) * block_size g) (share_data_size g)
stop_is g number begins = omega (arith, begins)

-- a piece that comes to the end of a block ends with the end of one
module _ (g : Geometry) (a b i : ℕ) (r : IsRange g a b) (is : i < data_pieces g a b) where
  ends_of_blocks : run_size g ≡ max_read / block_size g * block_size g → run_size g ≤ max_read
      → (last : ℕ) × (a ≤ last) × (last < b) × (min (data_offset g a (i + 1)) (data_end g b) ≡ block_stop g last)
  ends_of_blocks whole fits =
      let size = block_size g in
      let m = max_read / size in
      let valid = r.valid in
      let some = block_some g valid in
      let one : run_reads g ≡ 1 = omega (arith, reads_most g valid a, reads_some' g valid a, fits) in
      let e : i + 1 ≡ (i + 1) * run_reads g + 0 = omega (arith, ap (λ n. (i + 1) * n) one) in
      let at = ap (piece_begin (run_size g) (run_reads g)) e
      ∙ piece_at_run (run_size g) (run_reads g) (size_some g valid a) (reads_some' g valid a) (reads_most g valid a) (reads_room g valid a) (i + 1) 0 (reads_some' g valid a) in
      let product : (i + 1) * run_size g ≡ (i + 1) * m * size = ap (λ n. (i + 1) * n) whole ∙ omega arith in
      let offset : data_offset g a (i + 1) ≡ header_size (layout_of g) + (a + (i + 1) * m) * size = omega (arith, begin_is g valid a (i + 1), at, product) in
      let holds : 0 < m = elim (cases_lt 0 m) [
        | inl found ↦ found
        | inr none ↦ absurd (omega (arith, size_some g valid a, whole, ap (λ n. n * size) (let z : m ≡ 0 = omega (arith, none) in z)))
      ] in
      let most : m ≤ (i + 1) * m = omega (arith, mul-le-mul_right {m = 1} {n = i + 1} m (omega arith)) in
      elim (cases_lt (a + (i + 1) * m) b) [
        | inl before ↦
            let last = a + (i + 1) * m - 1 in
            let next : last + 1 ≡ a + (i + 1) * m = omega (arith, holds, most) in
            let begins = block_begins g last b (record { valid = valid; some = omega (arith, next, before); within = r.within }) in
            let fewer = mul-le-mul_right {m = a + (i + 1) * m} {n = b} size (omega (arith, before)) in (
              last,
              omega (arith, next, holds, most),
              omega (arith, next, before),
              omega (arith, offset, fewer, stop_is g last (omega (arith, begins)), ap (λ n. n * size) next),
            )
        | inr behind ↦
            let last = b - 1 in
            let next : last + 1 ≡ b = (let s = r.some in omega (arith, s)) in
            let begins = block_begins g last b (record { valid = valid; some = omega (arith, next); within = r.within }) in
            let more = mul-le-mul_right {m = b} {n = a + (i + 1) * m} size behind in (
              last,
              (let s = r.some in omega (arith, next, s)),
              omega (arith, next),
              omega (arith, offset, more, stop_is g last (omega (arith, begins)), ap (λ n. n * size) next),
            )
      ]

  block_alone : run_size g ≡ block_size g → (number : ℕ) → a ≤ number → number < b → data_offset g a i < block_stop g number
      → block_stop g number ≤ min (data_offset g a (i + 1)) (data_end g b) → min (data_offset g a (i + 1)) (data_end g b) ≡ block_stop g number
  block_alone one number from before after reach =
      let size = block_size g in
      let valid = r.valid in
      let d = i / run_reads g in
      let q = run_reads g in
      let run : d * run_size g ≡ d * size = ap (λ n. d * n) one in
      let low : block_start g a + d * size ≤ data_offset g a i =
      omega (arith, begin_is g valid a i, run, run_from (run_size g) q (size_some g valid a) (reads_some' g valid a) (reads_most g valid a) (reads_room g valid a) i) in
      let high : data_offset g a (i + 1) ≤ block_start g a + d * size + size =
      omega (arith, begin_is g valid a (i + 1), run, one, in_run (run_size g) q (size_some g valid a) (reads_some' g valid a) (reads_most g valid a) (reads_room g valid a) i) in
      let begins = block_begins g number b (record { valid = valid; some = before; within = r.within }) in
      let stop = stop_is g number (omega (arith, begins)) in
      let past : a + d ≤ number = elim (cases_lt number (a + d)) [
        | inr low ↦ low
        | inl fewer ↦ absurd (omega (arith, low, after, stop, mul-le-mul_right {m = number + 1} {n = a + d} size (omega (arith, fewer))))
      ] in
      let more = mul-le-mul_right {m = a + d} {n = number} size past in
      omega (arith, reach, high, more, stop)

pub end_with_blocks : PiecesEndWithBlocks
end_with_blocks g a b i r is number from before after reach =
    let inside = data_inside g a b i r is in
    let whole : data_offset g a i + length_of g a b (Data i) ≡ min (data_offset g a (i + 1)) (data_end g b) = omega (arith, inside, data_rises g r.valid a i) in
    elim (runs (block_size g) (block_some g r.valid)) [
      | inl large ↦ (number, from, before, whole ∙ block_alone g a b i r is large.0 number from before after (omega (arith, reach, whole)))
      | inr small ↦
          let found = ends_of_blocks g a b i r is small.2 small.0 in
          (found.0, found.1, found.2, whole ∙ found.3)
    ]
