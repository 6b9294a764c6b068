-- What is handed out of a file whose extension block is accepted.
use Rattle.std.specs.Prelude.{◌≡◌, ◌≢◌, ℕ, ◌≤◌, List, [], length, Some, All}
use Rattle.tagged_hash.specs.TaggedHash.{tagged_hash}
use Rattle.tagged_hash.specs.declared.tag.Tag.TheVariants.{CiphertextSegment}
use Rattle.ueb.specs.Shape.{Contents}
use Rattle.share_layout.specs.Geometry.{Geometry}
use Rattle.share_layout.specs.Pieces.{segment_length}
use Rattle.share_verify.specs.CapBlock.{geometry_by}
use Rattle.download_parts.specs.Trees.{AreTrees, FileTreesState, HaveSameRoots, KnowsAllOf}
use Rattle.download_parts.specs.Trees.{known_leaf, starting_trees}
use Rattle.download_segments.specs.declared.piece.Piece.{Piece}
use Rattle.download_segments.specs.Pieces.{AreConsecutive, IsGiven}

-- Offsets are in bytes from the file's beginning. `to`: the offset behind the last byte that is
-- wanted. `reached`: the offset up to which pieces were made. `handed`: the offset up to which they
-- were taken. `ready`: the pieces between the two, in order.
pub record HandoutState : Type 0 where
  pub key : List ℕ
  pub ueb : Contents
  pub geometry : Geometry
  pub trees : FileTreesState
  pub to : ℕ
  pub handed : ℕ
  pub reached : ℕ
  pub ready : List Piece

-- the value of a handout with these fields
abbrev pub handout_state : List ℕ → Contents → Geometry → FileTreesState → ℕ → ℕ → ℕ → List Piece
    → HandoutState
handout_state key ueb geometry trees to handed reached ready = record {
  key = key;
  ueb = ueb;
  geometry = geometry;
  trees = trees;
  to = to;
  handed = handed;
  reached = reached;
  ready = ready;
}

-- What holds of each: the trees are those of the extension block, and the pieces follow one
-- another, each proved by the extension block. None passes the last byte that is wanted.
pub record IsHandout (h : HandoutState) : Type 0 where
  pub geometry : h.geometry ≡ geometry_by h.ueb
  pub trees : AreTrees h.trees
  pub roots : HaveSameRoots (starting_trees h.ueb h.geometry) h.trees
  pub inside : h.to ≤ h.geometry.size
  pub within : h.reached ≤ h.to
  pub consecutive : AreConsecutive h.handed h.ready h.reached
  pub given : All (IsGiven h.key h.ueb) h.ready

-- the bytes of a file with this extension block from an offset up to another are wanted, and only
-- the roots of its trees are known
abbrev pub starting_handout : List ℕ → Contents → Geometry → ℕ → ℕ → HandoutState
starting_handout key u g from to = handout_state key u g (starting_trees u g) to from from []

-- the same with other trees
abbrev pub with_trees : HandoutState → FileTreesState → HandoutState
with_trees h trees = record h { trees = trees }

-- these bytes have the length of the segment with this number, and their hash is the leaf that is
-- known for it
pub record ProvesSegment (h : HandoutState) (number : ℕ) (segment : List ℕ) : Type 0 where
  pub size : length segment ≡ segment_length h.geometry number
  pub known : known_leaf h.trees.ciphertext number ≡ Some (tagged_hash CiphertextSegment segment)

-- the leaf that is known for a segment is not the hash of these bytes
pub record RefutesSegment (h : HandoutState) (number : ℕ) (segment : List ℕ) : Type 0 where
  pub leaf : List ℕ
  pub known : known_leaf h.trees.ciphertext number ≡ Some leaf
  pub differs : leaf ≢ tagged_hash CiphertextSegment segment

-- what is known of the nodes of the trees stays known
pub record TreesGrow (old new : FileTreesState) : Type 0 where
  pub shares : KnowsAllOf old.shares new.shares
  pub ciphertext : KnowsAllOf old.ciphertext new.ciphertext
