-- What follows from the leaves that a pass over a file gathered.
use Rattle.std.specs.Prelude.{◌≡◌, ℕ, List, map}
use Rattle.std.specs.List.{range_with_len}
use Rattle.tagged_hash.specs.TaggedHash.{share_digest}
use Rattle.ueb.specs.Block.{ueb_text}
use Rattle.share_layout.specs.Geometry.{Geometry}
use Rattle.share_layout.specs.Pieces.{segments_of}
use Rattle.share_verify.specs.Pieces.{block_hashes}
use Rattle.proved_parts.specs.FileOf.{segment_hashes}
use Rattle.file_encoding.specs.Encoding.{blocks_of, extension_block_contents, share_hashes}
use Rattle.file_encoding.specs.Encoding.{share_leaves, share_of}
use Rattle.share_gathering.specs.declared.finishing.Finished.{Finished}

-- it is what is kept of this ciphertext
pub record IsFinished (g : Geometry) (ciphertext : List ℕ) (f : Finished) : Type 0 where
  pub extension_block : f.behind.extension_block.items
      ≡ ueb_text (extension_block_contents g ciphertext (segments_of g ciphertext))
  pub leaves : f.behind.ciphertext_tree ≡ segment_hashes (segments_of g ciphertext)
  pub block_leaves : f.behind.block_trees.items
      ≡ map (λ i. block_hashes (blocks_of g.needed i (segments_of g ciphertext)))
      (range_with_len 0 g.total)
  pub hashes : map (λ (h : _). h.items) f.behind.share_hashes.items
      ≡ map (share_hashes (share_leaves g (segments_of g ciphertext))) (range_with_len 0 g.total)
  pub digests : f.digests.items
      ≡ map (λ i. share_digest (share_of g (segments_of g ciphertext)
      f.behind.extension_block.items i)) (range_with_len 0 g.total)
