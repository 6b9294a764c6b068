-- What is held beside what contracts see of what is kept.
use Rattle.std.specs.Prelude.{◌≡◌, ℕ, ◌≤◌, List, length, map}
use Rattle.std.specs.List.{range_with_len}
use Rattle.merkle.specs.Tree.{tree_nodes, tree_root}
use Rattle.ueb.specs.Limits.{max_length}
use Rattle.share_layout.specs.Geometry.{IsGeometry, tree_size}
use Rattle.share_verify.specs.Pieces.{joined}
use Rattle.file_encoding.specs.Encoding.{share_hashes}
use Rattle.block_making.specs.Making.{AreSlots}
use Rattle.block_making.specs.declared.encoder.Encoder.{Encoder}
use Rattle.block_making.specs.Slots.{Slots}
use Rattle.share_gathering.specs.Buffers.{AreBuffers}
use Rattle.share_gathering.specs.KeptFile.{IsKeptOf, KeptFile}
use Rattle.share_gathering.specs.declared.buffers.Buffers.{Buffers}

-- It is kept of some bytes, and their segments are made again by this encoder in these buffers.
-- These are the hashes that each share carries of the share tree.
pub record IsKept (k : KeptFile) (hashes : List (List ℕ)) (e : Encoder) (b : Buffers) : Type 0 where
  pub bytes : List ℕ
  pub of : IsKeptOf k bytes
  pub valid : IsGeometry k.geometry
  pub tree : length (joined (tree_nodes k.leaves)) ≡ tree_size k.geometry
  pub short : length k.extension_block ≤ max_length
  pub digests : length k.digests ≡ k.geometry.total
  pub hashes_are : hashes
      ≡ map (share_hashes (map tree_root k.block_leaves)) (range_with_len 0 k.geometry.total)
  pub cipher : e.cipher ≡ k.key
  pub needed : e.code.k ≡ k.geometry.needed
  pub total : e.code.n ≡ k.geometry.total
  pub buffers : AreBuffers k.geometry b

-- so it is, and what the slots hold are blocks with the hashes that are kept
pub record IsHeld (k : KeptFile) (hashes : List (List ℕ)) (e : Encoder) (b : Buffers)
    (slots : Slots) : Type 0 where
  pub kept : IsKept k hashes e b
  pub verified : AreSlots k.geometry k.block_leaves slots
