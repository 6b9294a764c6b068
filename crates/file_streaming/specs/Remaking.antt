-- What the pass over a padded ciphertext holds.
use Rattle.std.specs.Prelude.{◌≡◌, ◌≢◌, ◌⊎◌, ℕ, ◌-◌, List, ◌++◌, length, map, min, take}
use Rattle.std.specs.Int.{div_ceil}
use Rattle.std.specs.List.{range_with_len}
use Rattle.tagged_hash.specs.TaggedHash.{share_digest}
use Rattle.merkle.specs.Tree.{tree_root}
use Rattle.ueb.specs.Shape.{Contents}
use Rattle.share_layout.specs.Geometry.{Geometry}
use Rattle.share_layout.specs.Pieces.{pieces, segments_of}
use Rattle.share_verify.specs.CapBlock.{geometry_by}
use Rattle.share_verify.specs.Pieces.{block_hashes}
use Rattle.proved_parts.specs.FileOf.{segment_hashes}
use Rattle.file_encoding.specs.Blocks.{padded_blocks}
use Rattle.file_encoding.specs.Encoding.{share_hashes}
use Rattle.file_encoding.specs.Padded.{padded_leaves, padded_shares, plain_segments}
use Rattle.sources.specs.Source.{IsPass, IsRead}
use Rattle.share_gathering.specs.Gathered.{Gathered, gathered_none, gathered_segments}
use Rattle.share_gathering.specs.Groups.{gathered_group}
use Rattle.share_gathering.specs.Shares.{HoldShares}
use Rattle.tagged_hash.specs.Wholes.{AreGiven}
use Rattle.share_gathering.specs.declared.finishing.Finished.{Finished}
use Rattle.share_gathering.specs.declared.groups.Group.{Group}
use Rattle.file_streaming.specs.declared.remaking.Remaking.{Remaking}

-- what is held of the shares was gathered of these segments
pub record HoldsShares (g : Geometry) (s : Gathered) (x : Remaking) : Type 0 where
  pub count : length x.shares.items ≡ g.total
  pub shares : HoldShares s x.shares.items
  pub groups : length x.wholes.items ≡ div_ceil g.total 7
  pub wholes : AreGiven g.total s.written x.wholes.items

-- the segments of a group were gathered, without what is padding behind a size
pub record HasMore (g : Geometry) (size : ℕ) (group : Group) (text : List ℕ)
    (old new : Remaking) : Type 0 where
  pub leaves : new.leaves.items ≡ old.leaves.items ++ segment_hashes
      (pieces group.count g.segment_size (take (min group.len (size - group.offset)) text))
  pub shares : (s : Gathered) → HoldsShares g s old
      → HoldsShares g (gathered_group g group text s) new

-- they were read for it
pub record IsGroupRemade {S : Type 0} (gives : S → ℕ → List ℕ → S → Type 0) (old : S)
    (g : Geometry) (size : ℕ) (group : Group) (before after : Remaking) (new : S) : Type 0 where
  pub text : List ℕ
  pub long : length text ≡ group.len
  pub read : IsRead gives old group.offset text new
  pub has : HasMore g size group text before after

-- it was gathered of a text with padding behind a size
pub record IsRemaking (g : Geometry) (size : ℕ) (text : List ℕ) (x : Remaking) : Type 0 where
  pub long : length text ≡ g.size
  pub leaves : x.leaves.items ≡ segment_hashes (segments_of g (take size text))
  pub holds : HoldsShares g (gathered_segments g (segments_of g text) (gathered_none g)) x

-- another root than the extension block tells, over the segments or over the shares
abbrev pub HasOtherRoot : Contents → List ℕ → Type 0
HasOtherRoot u text =
    (tree_root (segment_hashes (plain_segments (geometry_by u) text)) ≢ u.crypttext_root_hash)
    ⊎ (tree_root (padded_leaves (geometry_by u) text) ≢ u.share_root_hash)

-- these are kept of a padded ciphertext, whose roots are those that the extension block tells
pub record IsRemadeFinished (u : Contents) (text extension_block : List ℕ) (f : Finished) : Type 0
  where
    pub ciphertext_root :
        tree_root (segment_hashes (plain_segments (geometry_by u) text)) ≡ u.crypttext_root_hash
    pub share_root : tree_root (padded_leaves (geometry_by u) text) ≡ u.share_root_hash
    pub copied : f.behind.extension_block.items ≡ extension_block
    pub leaves :
        f.behind.ciphertext_tree ≡ segment_hashes (plain_segments (geometry_by u) text)
    pub block_leaves : f.behind.block_trees.items
        ≡ map (λ i. block_hashes (padded_blocks (geometry_by u) i text))
        (range_with_len 0 u.total_shares)
    pub hashes : map (λ (h : _). h.items) f.behind.share_hashes.items
        ≡ map (share_hashes (padded_leaves (geometry_by u) text)) (range_with_len 0 u.total_shares)
    pub digests :
        f.digests.items ≡ map share_digest (padded_shares (geometry_by u) text extension_block)

-- the source was read once for it
pub record IsRemakingFrom {S : Type 0} (gives : S → ℕ → List ℕ → S → Type 0) (old : S)
    (g : Geometry) (size : ℕ) (x : Remaking) (new : S) : Type 0 where
  pub text : List ℕ
  pub pass : IsPass gives g.size old text new
  pub is : IsRemaking g size text x
