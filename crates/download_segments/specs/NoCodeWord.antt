-- Files that nobody could have encoded: blocks that are proved decode to a segment that is not. All
-- that is hashed for that is of a kind.
use Rattle.std.specs.Prelude.{◌≡◌, ◌≢◌, ℕ, ◌<◌, List, length, Some, slice_get, Contains}
use Rattle.tagged_hash.specs.TaggedHash.{tagged_hash, tagged_input}
use Rattle.tagged_hash.specs.declared.tag.Tag.TheVariants.{Block, CiphertextSegment}
use Rattle.merkle.specs.Inputs.{AreHashes, path_inputs}
use Rattle.merkle.specs.Path.{LeadsBy}
use Rattle.merkle.specs.Tree.{height}
use Rattle.ueb.specs.Shape.{Contents}
use Rattle.share_layout.specs.Geometry.{segment_count}
use Rattle.share_layout.specs.Pieces.{block_length}
use Rattle.share_verify.specs.CapBlock.{geometry_by}
use Rattle.proved_parts.specs.Decoding.{DecodesBlocks}
use Rattle.download_segments.specs.Decoding.{AreShareNumbers}

-- The hash leads from this leaf to the root by these siblings, in a tree of so many leaves. It and
-- each of them has 32 bytes, and each node on the way is hashed of a kind of inputs.
pub record LeadsIn (IsOne : List ℕ → Type 0) (count : ℕ) (root : List ℕ) (leaf : ℕ)
    (hash : List ℕ) (siblings : List (List ℕ)) : Type 0 where
  pub leads : LeadsBy count root leaf hash siblings
  pub long : length hash ≡ 32
  pub hashes : AreHashes siblings
  pub hashed : (input : List ℕ)
      → Contains (path_inputs (height count) leaf hash siblings) input → IsOne input

-- This is the block that a share has of the segment with this number: its hash leads to the root of
-- the share's block tree, and that to the root of the share tree. It, and each node on the way, is
-- hashed of a kind of inputs.
pub record IsBlockIn (IsOne : List ℕ → Type 0) (u : Contents) (share number : ℕ) (block : List ℕ)
    : Type 0 where
  pub size : length block ≡ block_length (geometry_by u) number
  pub hashed : IsOne (tagged_input Block block)
  pub root : List ℕ
  pub in_share : List (List ℕ)
  pub leads_in_share : LeadsIn IsOne (segment_count (geometry_by u)) root number
      (tagged_hash Block block) in_share
  pub in_file : List (List ℕ)
  pub leads_in_file : LeadsIn IsOne u.total_shares u.share_root_hash share root in_file

-- Blocks of one segment, of as many different shares as are needed, are proved. They decode to a
-- segment whose hash is not the one that is proved for it. All that proves them and it is hashed of
-- a kind of inputs.
pub record IsNoCodeWordIn (IsOne : List ℕ → Type 0) (u : Contents) : Type 0 where
  pub number : ℕ
  pub there : number < segment_count (geometry_by u)
  pub numbers : List ℕ
  pub blocks : List (List ℕ)
  pub shares : AreShareNumbers (geometry_by u) numbers
  pub one_each : length blocks ≡ length numbers
  pub proved : (i share : ℕ) (block : List ℕ) → slice_get numbers i ≡ Some share
      → slice_get blocks i ≡ Some block → IsBlockIn IsOne u share number block
  pub segment : List ℕ
  pub decoded : DecodesBlocks (geometry_by u) numbers blocks number segment
  pub leaf : List ℕ
  pub siblings : List (List ℕ)
  pub leads : LeadsIn IsOne (segment_count (geometry_by u)) u.crypttext_root_hash number leaf
      siblings
  pub differs : leaf ≢ tagged_hash CiphertextSegment segment

-- any input
abbrev pub IsAnyInput : List ℕ → Type 0
IsAnyInput input = Unit {0}

-- the same of any inputs
abbrev pub IsBlockBy : Contents → ℕ → ℕ → List ℕ → Type 0
IsBlockBy u share number block = IsBlockIn IsAnyInput u share number block

abbrev pub IsNoCodeWord : Contents → Type 0
IsNoCodeWord u = IsNoCodeWordIn IsAnyInput u
