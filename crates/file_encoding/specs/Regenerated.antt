-- Which shares are made anew of some that pass every check, without the key, and why none are.
use Rattle.std.specs.Prelude.{◌≡◌, ℕ, ◌<◌, List, [], length, map, slice_index_or}
use Rattle.merkle.specs.Tree.{tree_root}
use Rattle.zfec_code.specs.Shares.{AreSharesOf}
use Rattle.cap_text.specs.Cap.{VerifyCapValue}
use Rattle.ueb.specs.Shape.{Contents, rounded_up}
use Rattle.share_layout.specs.Geometry.{Geometry, segment_count}
use Rattle.share_layout.specs.Pieces.{block_at, segment_at}
use Rattle.share_verify.specs.CapBlock.{IsUebFor, geometry_by}
use Rattle.proved_parts.specs.FileOf.{segment_hashes}
use Rattle.file_encoding.specs.Reading.{Agree, AreInconsistent, TakenShare, Takes, blocks_in}
use Rattle.file_encoding.specs.Reading.{numbers_of}
use Rattle.file_encoding.specs.Padded.{padded_leaves, padded_shares, plain_segments}

-- The blocks of some shares, with these numbers, decode to a padded text: those of each of its
-- segments are shares of it.
pub record DecodeTo (g : Geometry) (numbers : List ℕ) (blocks : List (List ℕ)) (text : List ℕ)
    : Type 0 where
  pub size : length text ≡ rounded_up g.size g.needed
  pub segments : (number : ℕ) → number < segment_count g
      → AreSharesOf g.needed (segment_at g number text) numbers (map (block_at g number) blocks)

-- what the shares that are taken have in common: an extension block of the cap, and the padded text
-- that their blocks decode to
pub record GivePadded (cap : VerifyCapValue) (taken : List TakenShare) (extension_block : List ℕ)
    (u : Contents) (text : List ℕ) : Type 0 where
  pub ueb : IsUebFor cap extension_block u
  pub agree : Agree taken extension_block u
  pub decoded : DecodeTo (geometry_by u) (numbers_of taken) (blocks_in taken) text

-- All shares of a cap's file, made anew of strings that come with their numbers: of the lowest
-- numbers that pass, as many as are needed, and of each the first string that passes. The extension
-- block is copied, and tells the roots that are computed.
pub record AreRegenerated (cap : VerifyCapValue) (numbers : List ℕ) (strings : List (List ℕ))
    (shares : List (List ℕ)) : Type 0 where
  pub taken : List TakenShare
  pub takes : Takes cap numbers strings taken
  pub extension_block : List ℕ
  pub u : Contents
  pub text : List ℕ
  pub give : GivePadded cap taken extension_block u text
  pub ciphertext_root :
      tree_root (segment_hashes (plain_segments (geometry_by u) text)) ≡ u.crypttext_root_hash
  pub share_root : tree_root (padded_leaves (geometry_by u) text) ≡ u.share_root_hash
  pub are : shares ≡ padded_shares (geometry_by u) text extension_block

-- the share of one number among these
pub record IsRegenerated (cap : VerifyCapValue) (numbers : List ℕ) (strings : List (List ℕ))
    (num : ℕ) (share : List ℕ) : Type 0 where
  pub shares : List (List ℕ)
  pub made : AreRegenerated cap numbers strings shares
  pub there : num < cap.total
  pub is : share ≡ slice_index_or shares num []

-- Why none are made though enough pass: the shares that are taken contradict one another, or they
-- agree, and the shares that would be made have another root than the extension block tells.
pub data CannotRegenerate (cap : VerifyCapValue) (numbers : List ℕ) (strings : List (List ℕ))
    : Type 0 where
  inconsistent : AreInconsistent cap numbers strings → CannotRegenerate cap numbers strings
  other_root : (taken : List TakenShare) (extension_block : List ℕ) (u : Contents) (text : List ℕ)
      → Takes cap numbers strings taken → GivePadded cap taken extension_block u text
      → ¬ (tree_root (padded_leaves (geometry_by u) text) ≡ u.share_root_hash)
      → CannotRegenerate cap numbers strings
