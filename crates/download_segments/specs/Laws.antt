-- Laws of segments, of their blocks, and of what is handed out of them.
use Rattle.std.specs.Prelude.{◌≡◌, ℕ, ◌+◌, ◌<◌, List, length, Some, None, slice_get}
use Rattle.std.specs.Prelude.{if◌then◌else◌, nat_lt}
use Rattle.merkle.specs.Known.{KnowsHashes}
use Rattle.merkle.specs.Partial.{PartialState}
use Rattle.ueb.specs.Shape.{Contents}
use Rattle.share_layout.specs.Geometry.{Geometry, IsGeometry, segment_count}
use Rattle.share_layout.specs.Pieces.{block_length}
use Rattle.share_verify.specs.CapBlock.{geometry_by}
use Rattle.proved_parts.specs.Decoding.{DecodesBlocks}
use Rattle.download_parts.specs.Trees.{FileTreesState, IsBlockTree, LeadTo, ProvesBlock}
use Rattle.download_parts.specs.Trees.{known_leaf, share_leaves}
use Rattle.download_segments.specs.State.{HandoutState, IsHandout, ProvesSegment, RefutesSegment}
use Rattle.download_segments.specs.State.{TreesGrow}
use Rattle.download_segments.specs.Handout.{handed_out, next_end, next_segment}
use Rattle.download_segments.specs.Decoding.{AreShareNumbers, blocks_in}
use Rattle.download_segments.specs.NoCodeWord.{IsBlockBy, IsNoCodeWord}

-- a law: the same blocks decode to one segment
abbrev pub SegmentsAreUnique : Type 0
SegmentsAreUnique = (g : Geometry) (numbers : List ℕ) (blocks : List (List ℕ)) (number : ℕ)
    (s t : List ℕ) → IsGeometry g → AreShareNumbers g numbers
    → DecodesBlocks g numbers blocks number s → DecodesBlocks g numbers blocks number t → s ≡ t

-- a law: a block that the block tree of a share proves leads to the root of the share tree, by
-- hashes of 32 bytes each
abbrev pub BlocksLead : Type 0
BlocksLead = (u : Contents) (shares tree : PartialState) (share number : ℕ) (block : List ℕ)
    → share < u.total_shares → number < segment_count (geometry_by u)
    → LeadTo shares u.share_root_hash (share_leaves u.total_shares) → KnowsHashes shares
    → known_leaf shares share ≡ Some tree.root
    → IsBlockTree tree (segment_count (geometry_by u)) → ProvesBlock tree number block
    → length block ≡ block_length (geometry_by u) number → IsBlockBy u share number block

-- a law: where proved blocks decode to a segment that is refuted, the file is no code word
abbrev pub NoCodeWords : Type 0
NoCodeWords = (h : HandoutState) (numbers : List ℕ) (number : ℕ) (joined segment : List ℕ)
    → IsHandout h → number < segment_count h.geometry → AreShareNumbers h.geometry numbers
    → DecodesBlocks h.geometry numbers (blocks_in h.geometry number joined) number segment
    → ((i share : ℕ) (block : List ℕ) → slice_get numbers i ≡ Some share
    → slice_get (blocks_in h.geometry number joined) i ≡ Some block
    → IsBlockBy h.ueb share number block)
    → RefutesSegment h number segment → IsNoCodeWord h.ueb

-- the trees grow by steps
pub record GrowBySteps : Type 0 where
  pub none : (t : FileTreesState) → TreesGrow t t
  pub two : (old between new : FileTreesState)
      → TreesGrow old between → TreesGrow between new → TreesGrow old new

-- a law: a segment that is proved stays so
abbrev pub ProvedSegmentsStay : Type 0
ProvedSegmentsStay = (old new : HandoutState) (number : ℕ) (segment : List ℕ)
    → new.geometry ≡ old.geometry → TreesGrow old.trees new.trees
    → ProvesSegment old number segment → ProvesSegment new number segment

-- a law: the segment behind one that is handed out is the next, where more is wanted
abbrev pub NextSegmentsFollow : Type 0
NextSegmentsFollow = (h : HandoutState) (number : ℕ) (segment : List ℕ) → IsHandout h
    → next_segment h ≡ Some number
    → next_segment (handed_out h segment)
    ≡ (if nat_lt (next_end h) h.to then Some (number + 1) else None)
