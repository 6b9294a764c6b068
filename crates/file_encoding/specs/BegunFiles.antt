-- A file whose shares are begun.
use Rattle.std.specs.Prelude.{◌≡◌, ℕ, List, length, map}
use Rattle.std.specs.Int.{div_ceil}
use Rattle.std.specs.List.{range_with_len}
use Rattle.merkle.specs.Tree.{tree_nodes, tree_root}
use Rattle.tagged_hash.specs.TaggedHash.{tagged_hash}
use Rattle.tagged_hash.specs.declared.tag.Tag.TheVariants.{Ciphertext}
use Rattle.share_layout.specs.Geometry.{Geometry, IsGeometry}
use Rattle.share_layout.specs.Pieces.{segments_of}
use Rattle.share_verify.specs.Pieces.{block_hashes}
use Rattle.tagged_hash.specs.Wholes.{AreGiven}
use Rattle.proved_parts.specs.FileOf.{segment_hashes}
use Rattle.file_encoding.specs.Blocks.{draft_of, padded_blocks}
use Rattle.file_encoding.specs.Digests.{begun_bytes}
use Rattle.file_encoding.specs.Encoding.{padded_segment}
use Rattle.file_encoding.specs.declared.encoding.BegunFile.{BegunFile}
use Rattle.file_encoding.specs.declared.draft.Begun.{Begun}

-- these are the first shares of a padded text, begun
pub record AreBegun (g : Geometry) (text : List ℕ) (ciphertext_nodes : List (List ℕ)) (count : ℕ)
    (begun : List Begun) : Type 0 where
  pub drafts : map (λ (b : Begun). b.draft) begun
      ≡ map (draft_of g text ciphertext_nodes) (range_with_len 0 count)
  pub roots : map (λ (b : Begun). b.root) begun
      ≡ map (λ i. tree_root (block_hashes (padded_blocks g i text))) (range_with_len 0 count)

-- these are the hashes and the begun shares of a ciphertext
pub record IsBegun (g : Geometry) (ciphertext : List ℕ) (begun : BegunFile) : Type 0 where
  pub valid : IsGeometry g
  pub size : length ciphertext ≡ g.size
  pub whole : begun.hashed.crypttext_hash ≡ tagged_hash Ciphertext ciphertext
  pub root : begun.ciphertext_root ≡ tree_root (segment_hashes (segments_of g ciphertext))
  pub shares : AreBegun g (padded_segment g.needed ciphertext)
      (tree_nodes (segment_hashes (segments_of g ciphertext))) g.total begun.shares.items
  pub groups : length begun.hashed.wholes.items ≡ div_ceil g.total 7
  pub given : AreGiven g.total (begun_bytes begun.shares.items) begun.hashed.wholes.items
