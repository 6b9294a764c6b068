-- The parts of the plan for the segments `a` to before `b`.
use Rattle.std.specs.Prelude.{◌≡◌, ℕ, ◌+◌, ◌-◌, ◌*◌, ◌/◌, ◌%◌, ◌<◌, ◌≤◌, max, min, Option, Some}
use Rattle.std.specs.Prelude.{None, nat_lt, if◌then◌else◌}
use Rattle.std.specs.Int.{div_ceil}
use Rattle.merkle.specs.Tree.{node_number}
use Rattle.share_layout.specs.Geometry.{Geometry, block_size, hashes_size, share_data_size}
use Rattle.share_layout.specs.Layout.{header_size, layout_of, offsets_of}
use Rattle.share_layout.specs.Pieces.{block_length}
use Rattle.download_parts.specs.Level.{level_at, level_count, tree_height}
use Rattle.download_parts.specs.declared.level.Level.{Level}
use Rattle.download_parts.specs.declared.part.NodePiece.{NodePiece}
use Rattle.download_parts.specs.declared.part.Nodes.{Nodes}
use Rattle.download_parts.specs.declared.part.Part.{Part}
use Rattle.download_parts.specs.declared.part.Part.TheVariants.{ShareHashes, BlockTree}
use Rattle.download_parts.specs.declared.part.Part.TheVariants.{CiphertextTree, Data}

-- the most bytes of a read, and the most nodes
abbrev pub max_read : ℕ
max_read = 32768

abbrev pub max_nodes : ℕ
max_nodes = 1024

-- The pieces of a level, and the nodes of one. Rows are cut at multiples of 1,024 nodes, wherever
-- the level begins, so that the nodes above one piece are in one piece of the level above.
abbrev pub pieces_of : Level → ℕ
pieces_of l = div_ceil l.end max_nodes - l.first / max_nodes

abbrev pub cut_at : Level → ℕ → ℕ
cut_at l index = max_nodes * (l.first / max_nodes + index)

abbrev pub nodes_at : Level → ℕ → Nodes
nodes_at l index = let from = max l.first (cut_at l index) in record {
  row = l.row;
  from = from;
  count = min l.end (cut_at l index + max_nodes) - from;
}

abbrev pub nodes_of : Geometry → ℕ → ℕ → NodePiece → Nodes
nodes_of g a b p = nodes_at (level_at g a b p.level) p.index

-- the node at this position of their row is one of these
abbrev pub IsAmong : Nodes → ℕ → Type 0
IsAmong n offset = (n.from ≤ offset) × (offset < n.from + n.count)

-- the level has this piece
pub record IsNodePiece (g : Geometry) (a b : ℕ) (p : NodePiece) : Type 0 where
  pub level : p.level < level_count (tree_height g)
  pub index : p.index < pieces_of (level_at g a b p.level)

-- the pieces of a tree in their order, upper levels first
abbrev pub first_piece : Geometry → Option NodePiece
first_piece g =
    if nat_lt 0 (level_count (tree_height g)) then Some (record { level = 0; index = 0 }) else None

abbrev pub next_piece : Geometry → ℕ → ℕ → NodePiece → Option NodePiece
next_piece g a b p =
    if nat_lt (p.index + 1) (pieces_of (level_at g a b p.level))
    then Some (record { level = p.level; index = p.index + 1 }) else
    if nat_lt (p.level + 1) (level_count (tree_height g))
    then Some (record { level = p.level + 1; index = 0 }) else
    None

-- where the block of a segment begins in a share
abbrev pub block_start : Geometry → ℕ → ℕ
block_start g number = header_size (layout_of g) + number * block_size g

-- where the blocks of the segments before `b` end
abbrev pub data_end : Geometry → ℕ → ℕ
data_end g b = header_size (layout_of g) + min (b * block_size g) (share_data_size g)

-- Blocks that are read together are as many as a read has room for, or one where it has room for
-- none. So many bytes they have, and in so many reads they come: one, or those of a block alone.
abbrev pub run_size : Geometry → ℕ
run_size g = max 1 (max_read / block_size g) * block_size g

abbrev pub run_reads : Geometry → ℕ
run_reads g = div_ceil (run_size g) max_read

-- where a piece of the data begins: the next begins where it ends
unfoldable pub data_offset : Geometry → ℕ → ℕ → ℕ
data_offset g a i =
    block_start g a + i / run_reads g * run_size g + max_read * (i % run_reads g)

-- the piece in which an offset of the data lies, and how far behind its beginning
unfoldable pub piece_at : Geometry → ℕ → ℕ → ℕ
piece_at g a offset =
    let begin = offset - block_start g a in
    begin / run_size g * run_reads g + begin % run_size g / max_read

unfoldable pub offset_at : Geometry → ℕ → ℕ → ℕ
offset_at g a offset = (offset - block_start g a) % run_size g % max_read

-- how many pieces the blocks of these segments have
abbrev pub data_pieces : Geometry → ℕ → ℕ → ℕ
data_pieces g a b = piece_at g a (data_end g b - 1) + 1

-- it is a part of the plan
abbrev pub IsPart : Geometry → ℕ → ℕ → Part → Type 0
IsPart g a b ShareHashes = Unit {0}
IsPart g a b (BlockTree p) = IsNodePiece g a b p
IsPart g a b (CiphertextTree p) = IsNodePiece g a b p
IsPart g a b (Data i) = i < data_pieces g a b

-- the offset of some nodes in the section of a tree
abbrev pub nodes_offset : ℕ → Nodes → ℕ
nodes_offset section n = section + 32 * node_number n.row n.from

-- the offset of a part in the share, and its length
abbrev pub offset_of : Geometry → ℕ → ℕ → Part → ℕ
offset_of g a b ShareHashes = (offsets_of g).share_hashes
offset_of g a b (BlockTree p) = nodes_offset (offsets_of g).block_tree (nodes_of g a b p)
offset_of g a b (CiphertextTree p) = nodes_offset (offsets_of g).ciphertext_tree (nodes_of g a b p)
offset_of g a b (Data i) = data_offset g a i

abbrev pub length_of : Geometry → ℕ → ℕ → Part → ℕ
length_of g a b ShareHashes = hashes_size g
length_of g a b (BlockTree p) = 32 * (nodes_of g a b p).count
length_of g a b (CiphertextTree p) = 32 * (nodes_of g a b p).count
length_of g a b (Data i) = min (data_offset g a (i + 1)) (data_end g b) - data_offset g a i

-- a read of so many bytes from this offset on is a part of the plan
pub record IsPlanned (g : Geometry) (a b offset len : ℕ) : Type 0 where
  pub part : Part
  pub is : IsPart g a b part
  pub begin_is : offset ≡ offset_of g a b part
  pub len_is : len ≡ length_of g a b part

-- where the block of a segment ends
abbrev pub block_stop : Geometry → ℕ → ℕ
block_stop g number = block_start g number + block_length g number

-- a read of so many bytes from this offset on that comes to the end of a block of these segments
-- ends with the end of one
abbrev pub EndsWithBlock : Geometry → ℕ → ℕ → ℕ → ℕ → Type 0
EndsWithBlock g a b offset len =
    (number : ℕ) → a ≤ number → number < b
    → offset < block_stop g number → block_stop g number ≤ offset + len
    → (last : ℕ) × (a ≤ last) × (last < b) × (offset + len ≡ block_stop g last)
