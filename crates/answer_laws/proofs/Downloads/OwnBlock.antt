-- A share's own pieces of the data join to its own block.
use Rattle.std.proofs.Common.{◌≡◌, ℕ, suc, ◌+◌, ◌-◌, ◌*◌, ◌<◌, ◌≤◌, min, List, [], ◌∷◌, ◌++◌, length, get_or, take, drop, slice_range, inl, inr, ap, sym, ◌∙◌, arith}
use Rattle.std.specs.List.{concat}
use Rattle.std.proofs.Math.Nat.{mul-le-mul_right}
use Rattle.std.proofs.Math.Seq.{take-add}
use Rattle.std.proofs.lemmas.Bool.{cases_lt}
use Rattle.std.proofs.lemmas.List.{append-nil, drop-drop, length-drop, take_all}
use Rattle.share_layout.specs.Geometry.{Geometry, IsGeometry, block_size, share_data_size}
use Rattle.share_layout.specs.Layout.{header_size, layout_of, offsets_of}
use Rattle.share_layout.specs.Pieces.{block_length}
use Rattle.share_layout.specs.Share.{Sections}
use Rattle.share_layout.proofs.ShareLemmas.{parts_of}
use Rattle.download_parts.specs.Plan.{block_start, data_end, data_offset}
use Rattle.download_parts.proofs.PartLemmas.{data_before, data_begins, data_more, data_rest, data_rise, data_rises}
use Rattle.download_supply.specs.Blocks.{block_end, block_first, block_offset}
use Rattle.answer_laws.specs.Downloads.OwnParts.{OwnPiecesJoin}
use Rattle.answer_laws.proofs.Downloads.OwnPieces.{slice_part}

-- pieces one after another, each to where the next begins or to the whole's end, are what lies there
join_own : (g : Geometry) (a whole first : ℕ) (share : List ℕ) (pieces : List (List ℕ)) → IsGeometry g
    → ((k : ℕ) → k < length pieces → get_or pieces k [] ≡ take (min (data_offset g a (first + k + 1)) whole - data_offset g a (first + k)) (drop (data_offset g a (first + k)) share))
    → concat pieces ≡ take (min (data_offset g a (first + length pieces)) whole - data_offset g a first) (drop (data_offset g a first) share)
join_own g a whole first share [] valid each =
    let start : first + 0 ≡ first = omega arith in
    let none : min (data_offset g a (first + 0)) whole - data_offset g a first ≡ 0 = omega (arith, ap (data_offset g a) start) in
    sym (ap (λ (n : ℕ). take n (drop (data_offset g a first) share)) none)
join_own g a whole first share (piece ∷ pieces) valid each =
    let start : first + 0 ≡ first = omega arith in
    let shift : (k : ℕ) → first + suc k ≡ first + 1 + k = λ k. omega arith in
    let begin : ℕ = data_offset g a first in
    let next : ℕ = data_offset g a (first + 1) in
    let last : ℕ = data_offset g a (first + 1 + length pieces) in
    let own : piece ≡ take (min next whole - begin) (drop begin share) =
    each 0 (omega arith) ∙ ap (λ (n : ℕ). take (min (data_offset g a (n + 1)) whole - data_offset g a n) (drop (data_offset g a n) share)) start in
    let rest : concat pieces ≡ take (min last whole - next) (drop next share) = join_own g a whole (first + 1) share pieces valid
    (λ k low. each (suc k) (omega (arith, low)) ∙ ap (λ (n : ℕ). take (min (data_offset g a (n + 1)) whole - data_offset g a n) (drop (data_offset g a n) share)) (shift k)) in
    let end : data_offset g a (first + length (piece ∷ pieces)) ≡ last = ap (data_offset g a) (shift (length pieces)) in
    let rises = data_rises g valid a first in
    let after = data_rise g valid a (first + 1) (first + 1 + length pieces) (omega arith) in
    (λ i. own i ++ rest i)
    ∙ elim (cases_lt whole next) [
      | inr within ↦
          let size : ℕ = next - begin in
          let behind : begin + size ≡ next = omega (arith, rises) in
          let one : min next whole - begin ≡ size = omega (arith, within) in
          let both : size + (min last whole - next) ≡ min (data_offset g a (first + length (piece ∷ pieces))) whole - begin = omega (arith, rises, within, after, end) in
          ap (λ (n : ℕ). take n (drop begin share) ++ take (min last whole - next) (drop next share)) one
          ∙ ap (λ (n : ℕ). take size (drop begin share) ++ take (min last whole - next) (drop n share)) (sym behind)
          ∙ ap (λ (l : List ℕ). take size (drop begin share) ++ take (min last whole - next) l) (sym (drop-drop size begin share))
          ∙ sym (take-add size (min last whole - next) (drop begin share))
          ∙ ap (λ (n : ℕ). take n (drop begin share)) both
      | inl past ↦
          let none : min last whole - next ≡ 0 = omega (arith, past) in
          let same : min next whole - begin ≡ min (data_offset g a (first + length (piece ∷ pieces))) whole - begin = omega (arith, past, after, end) in
          ap (λ (n : ℕ). take (min next whole - begin) (drop begin share) ++ take n (drop next share)) none
          ∙ append-nil (take (min next whole - begin) (drop begin share))
          ∙ ap (λ (n : ℕ). take n (drop begin share)) same
    ]

-- a block is as long as what is left
whole_block : (size rest : ℕ) (xs : List ℕ) → length xs ≡ rest → take (min size rest) xs ≡ take size xs
whole_block size rest xs long = elim (cases_lt rest size) [
  | inl short ↦
      let fits : min size rest ≡ rest = omega (arith, short) in
      ap (λ (n : ℕ). take n xs) fits ∙ take_all rest xs (omega (arith, long)) ∙ sym (take_all size xs (omega (arith, long, short)))
  | inr full ↦ let fits : min size rest ≡ size = omega (arith, full) in ap (λ (n : ℕ). take n xs) fits
]

pub own_pieces_join : OwnPiecesJoin
own_pieces_join g a b segment num share s pieces range from before of count each =
    let len : ℕ = block_length g segment in
    let valid = range.valid in
    let within = range.within in
    let some : 0 < len = let begins = data_begins g segment (segment + 1) (record { valid = range.valid; some = omega arith; within = omega (arith, before, within) }) in omega (arith, begins) in
    let position : ℕ = block_start g segment in
    let first : ℕ = block_first g a segment in
    let end : ℕ = block_end g a segment in
    let off : ℕ = block_offset g a segment in
    let low = mul-le-mul_right {m = a} {n = segment} (block_size g) from in
    let high = mul-le-mul_right {m = segment + 1} {n = b} (block_size g) (omega (arith, before)) in
    let whole : ℕ = data_end g b in
    let order : first ≤ end = omega (arith, data_more g valid a position (position + len - 1) (omega (arith, some))) in
    let last : first + length pieces ≡ end = omega (arith, count, order) in
    let stop = ap (data_offset g a) last in
    let begins : data_offset g a first + off ≡ position = data_rest g valid a position (omega (arith, low)) in
    let ends : position + len ≤ whole = omega (arith, high, some) in
    let more : position + len ≤ data_offset g a end = omega (arith, data_before g valid a (position + len - 1), some) in
    let all = join_own g a whole first share pieces valid each in
    let upto : ℕ = min (data_offset g a (first + length pieces)) whole in
    let start : ℕ = header_size (layout_of g) in
    let sections = (parts_of g share s of.text of.lengths).sections in
    let here : s.blocks ≡ slice_range share start (offsets_of g).unused = ap (λ (t : Sections). t.blocks) sections in
    let long : length (drop (segment * block_size g) s.blocks) ≡ share_data_size g - segment * block_size g =
    length-drop (segment * block_size g) s.blocks ∙ (let blocks = of.lengths.blocks in omega (arith, blocks)) in
    ap (λ (l : List ℕ). take len (drop off l)) all
    ∙ slice_part share (data_offset g a first) upto off len (omega (arith, stop, begins, ends, more))
    ∙ ap (λ (n : ℕ). take len (drop n share)) begins
    ∙ sym (slice_part share start (offsets_of g).unused (segment * block_size g) len (omega (arith, some)))
    ∙ ap (λ (l : List ℕ). take len (drop (segment * block_size g) l)) (sym here)
    ∙ whole_block (block_size g) (share_data_size g - segment * block_size g) (drop (segment * block_size g) s.blocks) long
