-- Plans that end with different segments.
use Rattle.std.proofs.Common.{◌≡◌, ℕ, ◌+◌, ◌-◌, ◌≤◌, min, inl, inr, ap, arith}
use Rattle.std.specs.Int.{div_ceil}
use Rattle.std.proofs.Math.Nat.{mul-le-mul_right}
use Rattle.std.proofs.lemmas.Bool.{cases_lt}
use Rattle.std.proofs.lemmas.Nat.{pow_pos}
use Rattle.lemmas.proofs.Numbers.{div_ceil_le}
use Rattle.share_layout.specs.Geometry.{Geometry, block_size, segment_count}
use Rattle.download_parts.proofs.PartLemmas.{pieces_grow, pieces_step}
use Rattle.download_parts.specs.Level.{end_node, group_size, leaves_below, level_at, row_of, tree_height}
use Rattle.download_parts.specs.Plan.{IsNodePiece, IsPart, block_start, data_end, data_pieces, max_nodes, piece_at, pieces_of}
use Rattle.share_layout.specs.Pieces.{block_length}
use Rattle.download_supply.specs.Blocks.{block_end, block_first}
use Rattle.download_parts.specs.declared.part.NodePiece.{NodePiece}
use Rattle.download_parts.specs.declared.part.Part.{Part}
use Rattle.download_parts.specs.declared.part.Part.TheVariants.{ShareHashes, BlockTree, CiphertextTree, Data}

pub end_grows : (m row b c count : ℕ) → b ≤ c → end_node m row b count ≤ end_node m row c count
unfolding end_node
end_grows m row b c count le =
    let w = leaves_below m row in
    let k = group_size row in
    let one : div_ceil b w ≤ div_ceil c w = div_ceil_le b c w (pow_pos (m - row)) le in
    let two : div_ceil (div_ceil b w) k ≤ div_ceil (div_ceil c w) k = div_ceil_le (div_ceil b w) (div_ceil c w) k (pow_pos (min row 7)) one in
    omega (arith, mul-le-mul_right {m = div_ceil (div_ceil b w) k} {n = div_ceil (div_ceil c w) k} k two)

-- a level of the longer plan has each piece of the shorter one's
pub level_grows : (g : Geometry) (a b c level : ℕ) → b ≤ c → pieces_of (level_at g a b level) ≤ pieces_of (level_at g a c level)
level_grows g a b c level le =
    let l = level_at g a b level in
    let o = level_at g a c level in
    let end : l.end ≤ o.end = end_grows (tree_height g) (row_of (tree_height g) level) b c (segment_count g) le in
    let more = div_ceil_le l.end o.end max_nodes (omega arith) end in
    omega (arith, more)

pub data_grows : (g : Geometry) (a b c : ℕ) → b ≤ c → data_pieces g a b ≤ data_pieces g a c
data_grows g a b c le =
    let more = mul-le-mul_right {m = b} {n = c} (block_size g) le in
    let end : data_end g b ≤ data_end g c = omega (arith, more) in
    omega (arith, pieces_grow g a (data_end g b - 1) (data_end g c - 1) (omega (arith, end)))

pub piece_grows : (g : Geometry) (a b c : ℕ) (p : NodePiece) → b ≤ c → IsNodePiece g a b p → IsNodePiece g a c p
piece_grows g a b c p le is =
    let low = is.index in
    let more = level_grows g a b c p.level le in
    record { level = is.level; index = omega (arith, low, more) }

-- each part of a plan is one of each longer plan
pub part_grows : (g : Geometry) (a b c : ℕ) (part : Part) → b ≤ c → IsPart g a b part → IsPart g a c part
part_grows g a b c ShareHashes le is = tt
part_grows g a b c (BlockTree p) le is = piece_grows g a b c p le is
part_grows g a b c (CiphertextTree p) le is = piece_grows g a b c p le is
part_grows g a b c (Data i) le is = let more = data_grows g a b c le in omega (arith, more, is)

-- the pieces of a block are from one on to one behind it
pub block_order : (g : Geometry) (a number : ℕ) → block_first g a number ≤ block_end g a number
block_order g a number =
    let position = block_start g number in
    elim (cases_lt 0 (block_length g number)) [
      | inl some ↦ omega (arith, pieces_grow g a position (position + block_length g number - 1) (omega (arith, some)))
      | inr none ↦ elim (cases_lt 0 position) [
        | inl more ↦
            let next : position + block_length g number - 1 + 1 ≡ position = omega (arith, none, more) in
            omega (arith, pieces_step g a (position + block_length g number - 1), ap (piece_at g a) next)
        | inr zero ↦ omega (arith, pieces_grow g a position (position + block_length g number - 1) (omega (arith, zero)))
      ]
    ]
