-- Laws of plans.
use Rattle.std.specs.Prelude.{◌≡◌, ◌⊎◌, ℕ, ◌+◌, ◌-◌, ◌/◌, ◌%◌, ◌<◌, ◌≤◌}
use Rattle.std.specs.Int.{div_ceil}
use Rattle.share_layout.specs.declared.offsets.Offsets.{Offsets}
use Rattle.share_layout.specs.Geometry.{Geometry, segment_count}
use Rattle.share_layout.specs.Layout.{header_size, offsets_of}
use Rattle.share_layout.specs.Pieces.{block_length}
use Rattle.download_parts.specs.Level.{IsAbove, first_node, group_size, leaves_below}
use Rattle.download_parts.specs.Level.{level_at, level_count, row_of, tree_height}
use Rattle.download_parts.specs.Plan.{EndsWithBlock, IsAmong, IsNodePiece, IsPart, block_start}
use Rattle.download_parts.specs.Plan.{length_of, max_nodes, max_read, nodes_of, offset_of}
use Rattle.download_parts.specs.Range.{IsRange}
use Rattle.download_parts.specs.declared.part.NodePiece.{NodePiece}
use Rattle.download_parts.specs.declared.part.Nodes.{Nodes}
use Rattle.download_parts.specs.declared.part.Part.{Part}
use Rattle.download_parts.specs.declared.part.Part.TheVariants.{ShareHashes, BlockTree}
use Rattle.download_parts.specs.declared.part.Part.TheVariants.{CiphertextTree, Data}

-- one ends before the other begins
abbrev pub AreApart : ℕ → ℕ → ℕ → ℕ → Type 0
AreApart offset len offset' len' = (offset + len ≤ offset') ⊎ (offset' + len' ≤ offset)

-- a law: two parts of a plan are one, or they have no byte in common
abbrev pub PartsAreApart : Type 0
PartsAreApart = (g : Geometry) (a b : ℕ) (p q : Part) → IsRange g a b
    → IsPart g a b p → IsPart g a b q → (p ≡ q)
    ⊎ AreApart (offset_of g a b p) (length_of g a b p) (offset_of g a b q) (length_of g a b q)

-- the section that a part is of: where it begins, and where it ends
abbrev pub section_start : Offsets → Part → ℕ
section_start s ShareHashes = s.share_hashes
section_start s (BlockTree p) = s.block_tree
section_start s (CiphertextTree p) = s.ciphertext_tree
section_start s (Data i) = header_size s.layout

abbrev pub section_end : Offsets → Part → ℕ
section_end s ShareHashes = s.extension_block
section_end s (BlockTree p) = s.share_hashes
section_end s (CiphertextTree p) = s.block_tree
section_end s (Data i) = s.unused

-- some bytes, 32,768 at most, lie in a section
pub record LiesIn (start end offset len : ℕ) : Type 0 where
  pub some : 0 < len
  pub few : len ≤ max_read
  pub begins : start ≤ offset
  pub ends : offset + len ≤ end

-- a law: each part lies in its section
abbrev pub PartsLieInside : Type 0
PartsLieInside = (g : Geometry) (a b : ℕ) (p : Part) → IsRange g a b → IsPart g a b p
    → LiesIn (section_start (offsets_of g) p) (section_end (offsets_of g) p)
    (offset_of g a b p) (length_of g a b p)

-- an offset of a share lies in the block of this segment
pub record IsInBlock (g : Geometry) (number offset : ℕ) : Type 0 where
  pub begins : block_start g number ≤ offset
  pub ends : offset < block_start g number + block_length g number

-- an offset lies in a piece of the data
pub record IsInPiece (g : Geometry) (a b i offset : ℕ) : Type 0 where
  pub part : IsPart g a b (Data i)
  pub begins : offset_of g a b (Data i) ≤ offset
  pub ends : offset < offset_of g a b (Data i) + length_of g a b (Data i)

-- a law: the pieces of the data hold the bytes of these segments' blocks, and no others
abbrev pub PartsHoldTheBlocks : Type 0
PartsHoldTheBlocks = (g : Geometry) (a b offset : ℕ) → IsRange g a b
    → ((i : ℕ) → IsInPiece g a b i offset
    → (number : ℕ) × (a ≤ number) × (number < b) × IsInBlock g number offset)
    × ((number : ℕ) → a ≤ number → number < b → IsInBlock g number offset
    → (i : ℕ) × IsInPiece g a b i offset)

-- a law: a piece of the data that comes to the end of a block ends with the end of one, so that no
-- block waits for bytes of the next, unless both are read at once
abbrev pub PiecesEndWithBlocks : Type 0
PiecesEndWithBlocks = (g : Geometry) (a b i : ℕ) → IsRange g a b → IsPart g a b (Data i)
    → EndsWithBlock g a b (offset_of g a b (Data i)) (length_of g a b (Data i))

-- a law: what is read of a level has each node in a group above a wanted segment that has a segment
-- below it
abbrev pub LevelsHoldGroups : Type 0
LevelsHoldGroups = (g : Geometry) (a b level number node : ℕ) → IsRange g a b
    → level < level_count (tree_height g) → a ≤ number → number < b
    → let l = level_at g a b level in IsAbove g l.row number node
    → (l.first ≤ node) × (node < l.end)

-- Some nodes of a row are whole groups: they begin with a group, and end with one, or with the last
-- node that has a segment below it.
pub record AreGroups (g : Geometry) (n : Nodes) : Type 0 where
  pub begin : n.from % group_size n.row ≡ 0
  pub end : ((n.from + n.count) % group_size n.row ≡ 0)
      ⊎ (n.from + n.count ≡ div_ceil (segment_count g) (leaves_below (tree_height g) n.row))

-- a law: the pieces of a tree are whole groups
abbrev pub PiecesAreGroups : Type 0
PiecesAreGroups = (g : Geometry) (a b : ℕ) (p : NodePiece) → IsRange g a b
    → IsNodePiece g a b p → AreGroups g (nodes_of g a b p)

-- The piece of the level above that has the nodes above a piece, 7 rows above it: the row of the
-- piece is cut at multiples of 1,024 nodes, and the nodes above are one for each 128.
abbrev pub first_cut : Geometry → ℕ → ℕ → ℕ
first_cut g a level = first_node (tree_height g) (row_of (tree_height g) level) a / max_nodes

abbrev pub piece_over : Geometry → ℕ → NodePiece → NodePiece
piece_over g a p = record {
  level = p.level - 1;
  index = (first_cut g a p.level + p.index) / 128 - first_cut g a (p.level - 1);
}

-- it is a piece of the plan, and has the node above each node of the piece
pub record IsUnder (g : Geometry) (a b : ℕ) (p q : NodePiece) : Type 0 where
  pub piece : IsNodePiece g a b q
  pub holds : (offset : ℕ) → IsAmong (nodes_of g a b p) offset
      → IsAmong (nodes_of g a b q) (offset / 128)

-- a law: what is above a piece that is not of the first level is one piece of the level above. Each
-- plan that has the one has the other.
abbrev pub PiecesAreUnderPieces : Type 0
PiecesAreUnderPieces = (g : Geometry) (a b : ℕ) (p : NodePiece) → IsRange g a b → 0 < p.level
    → IsNodePiece g a b p → IsUnder g a b p (piece_over g a p)
