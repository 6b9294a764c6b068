-- The nodes that a read brings to a tree of which nodes are known: each comes with its sibling.
use Rattle.std.specs.Prelude.{◌≡◌, ℕ, ◌+◌, ◌*◌, ◌^◌, ◌<◌, List, length}
use Rattle.merkle.specs.Offers.{AreWithSiblings}
use Rattle.merkle.specs.Partial.{IsPartial, PartialState}
use Rattle.merkle.specs.Tree.{height}
use Rattle.share_layout.specs.Geometry.{Geometry, segment_count}
use Rattle.download_parts.specs.Plan.{IsNodePiece, nodes_of}
use Rattle.download_parts.specs.Range.{IsRange}
use Rattle.download_parts.specs.declared.part.NodePiece.{NodePiece}
use Rattle.download_parts.specs.Offers.{nodes_offered, share_hashes_offered}
use Rattle.download_supply.specs.Upper.{KnowsTops}

-- a law: what the bytes of a piece of a tree offer comes with its siblings, where what proves the
-- piece is known
abbrev pub PiecesHaveSiblings : Type 0
PiecesHaveSiblings = (g : Geometry) (a b : ℕ) (piece : NodePiece) (p : PartialState)
    (bytes : List ℕ) → IsRange g a b → IsNodePiece g a b piece → IsPartial p
    → p.leaf_count ≡ segment_count g → KnowsTops p (nodes_of g a b piece)
    → length bytes ≡ 32 * (nodes_of g a b piece).count
    → AreWithSiblings p (nodes_offered (nodes_of g a b piece) bytes)

-- a law: what share hashes offer to the share tree comes with its siblings, whatever is known
abbrev pub ShareHashesHaveSiblings : Type 0
ShareHashesHaveSiblings = (p : PartialState) (total share : ℕ) (bytes : List ℕ)
    → share < 2 ^ height total → length bytes ≡ (height total + 1) * 34
    → AreWithSiblings p (share_hashes_offered total share bytes)
