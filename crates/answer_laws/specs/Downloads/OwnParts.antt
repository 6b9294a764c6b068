-- What a read brings of a share's own bytes.
use Rattle.std.specs.Prelude.{◌≡◌, ℕ, ◌+◌, ◌-◌, ◌<◌, ◌≤◌, List, []}
use Rattle.std.specs.Prelude.{drop, length, slice_index_or, take}
use Rattle.merkle.specs.Offers.{AreOfTree}
use Rattle.merkle.specs.OneTree.{KnowsTree}
use Rattle.merkle.specs.Partial.{IsNotConsistent, IsPartial, PartialState}
use Rattle.share_layout.specs.Geometry.{Geometry, segment_count}
use Rattle.share_layout.specs.Pieces.{block_at}
use Rattle.share_layout.specs.Share.{IsShare, Sections}
use Rattle.share_verify.specs.TreeSection.{HoldsTree}
use Rattle.download_parts.specs.Plan.{IsNodePiece, IsPart, length_of, nodes_of, offset_of}
use Rattle.download_parts.specs.Range.{IsRange}
use Rattle.download_parts.specs.declared.part.NodePiece.{NodePiece}
use Rattle.download_parts.specs.declared.part.Part.{Part}
use Rattle.download_parts.specs.declared.part.Part.TheVariants.{BlockTree, CiphertextTree, Data}
use Rattle.download_supply.specs.Blocks.{block_end, block_first, joined_block}
use Rattle.download_supply.specs.Upper.{KnowsTops}
use Rattle.download_parts.specs.Offers.{nodes_offered}

-- the share's own bytes of a part of the plan for the segments `a` to before `b`
abbrev pub own_part : Geometry → ℕ → ℕ → List ℕ → Part → List ℕ
own_part g a b share part = take (length_of g a b part) (drop (offset_of g a b part) share)

-- a law: they are as many as are asked
abbrev pub OwnPartsHaveLengths : Type 0
OwnPartsHaveLengths = (g : Geometry) (a b num : ℕ) (share : List ℕ) (s : Sections) (part : Part)
    → IsRange g a b → IsPart g a b part → IsShare g num share s
    → length (own_part g a b share part) ≡ length_of g a b part

-- A section of a share holds the tree over leaves, one for each segment.
pub record HoldsLeaves (g : Geometry) (section : List ℕ) (leaves : List (List ℕ)) : Type 0 where
  pub count : length leaves ≡ segment_count g
  pub holds : HoldsTree section leaves

-- own bytes offer nodes of the tree, and these go with a tree of which what is known are nodes of
-- it, and what proves the piece is known
pub record DoGoOn (g : Geometry) (a b : ℕ) (p : NodePiece) (leaves : List (List ℕ))
    (bytes : List ℕ) : Type 0 where
  pub of_tree : AreOfTree leaves (nodes_offered (nodes_of g a b p) bytes)
  pub go_on : (t : PartialState) → IsPartial t → t.leaf_count ≡ segment_count g
      → KnowsTree t leaves → KnowsTops t (nodes_of g a b p)
      → ¬ IsNotConsistent t (nodes_offered (nodes_of g a b p) bytes)

-- a law: own bytes of a piece of the block tree go on, and of the ciphertext tree too
abbrev pub OwnPiecesGoOn : Type 0
OwnPiecesGoOn = (g : Geometry) (a b num : ℕ) (share : List ℕ) (s : Sections) (p : NodePiece)
    (leaves : List (List ℕ)) → IsRange g a b → IsNodePiece g a b p → IsShare g num share s
    → (HoldsLeaves g s.block_tree leaves
    → DoGoOn g a b p leaves (own_part g a b share (BlockTree p)))
    × (HoldsLeaves g s.ciphertext_tree leaves
    → DoGoOn g a b p leaves (own_part g a b share (CiphertextTree p)))

-- a law: the share's own pieces of the data join to its own block
abbrev pub OwnPiecesJoin : Type 0
OwnPiecesJoin = (g : Geometry) (a b segment num : ℕ) (share : List ℕ) (s : Sections)
    (pieces : List (List ℕ)) → IsRange g a b → a ≤ segment → segment < b → IsShare g num share s
    → length pieces ≡ block_end g a segment - block_first g a segment
    → ((k : ℕ) → k < length pieces → slice_index_or pieces k []
    ≡ own_part g a b share (Data (block_first g a segment + k)))
    → joined_block g a segment pieces ≡ block_at g segment s.blocks
