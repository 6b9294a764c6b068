-- What is kept of the bytes of a source for the shares that are made of them: hashes, and not the
-- bytes.
use Rattle.std.specs.Prelude.{◌≡◌, ℕ, ◌+◌, Option, List, [], ◌++◌, length, map, slice_index_or}
use Rattle.std.specs.List.{range_with_len}
use Rattle.merkle.specs.Tree.{tree_root}
use Rattle.share_layout.specs.Geometry.{Geometry, share_data_size}
use Rattle.share_layout.specs.Layout.{header, offsets_of, width}
use Rattle.share_layout.specs.Pieces.{segments_of}
use Rattle.share_verify.specs.Pieces.{block_hashes, joined}
use Rattle.file_encoding.specs.Encoding.{blocks_of}
use Rattle.block_making.specs.Making.{IsPieceOf, ciphertext_from}
use Rattle.share_gathering.specs.Gathered.{behind_blocks}

-- the geometry of the bytes, the key that encrypts them, if they are to be encrypted, the extension
-- block, the leaves of the ciphertext tree and of each share's block tree, and the digest of each
-- share
pub record KeptFile : Type 0 where
  pub geometry : Geometry
  pub key : Option (List ℕ)
  pub extension_block : List ℕ
  pub leaves : List (List ℕ)
  pub block_leaves : List (List (List ℕ))
  pub digests : List (List ℕ)

-- the value of what is kept so
abbrev pub kept_with : Geometry → Option (List ℕ) → List ℕ → List (List ℕ)
    → List (List (List ℕ)) → List (List ℕ) → KeptFile
kept_with geometry key extension_block leaves block_leaves digests = record {
  geometry = geometry;
  key = key;
  extension_block = extension_block;
  leaves = leaves;
  block_leaves = block_leaves;
  digests = digests;
}

-- the blocks of these bytes have the hashes that are kept
pub record IsKeptOf (k : KeptFile) (bytes : List ℕ) : Type 0 where
  pub long : length bytes ≡ k.geometry.size
  pub block_leaves : k.block_leaves ≡ map (λ i. block_hashes (blocks_of k.geometry.needed i
      (segments_of k.geometry (ciphertext_from k.key 0 bytes)))) (range_with_len 0 k.geometry.total)

-- the length of each share
abbrev pub kept_length : KeptFile → ℕ
kept_length k = let offsets = offsets_of k.geometry in
    offsets.extension_block + width offsets.layout + length k.extension_block

-- the leaves of a share's block tree that are kept
abbrev pub kept_leaves : KeptFile → ℕ → List (List ℕ)
kept_leaves k share = slice_index_or k.block_leaves share []

-- the share of this number with these blocks, by what is kept
abbrev pub kept_share : KeptFile → List (List ℕ) → ℕ → List ℕ
kept_share k blocks share = header k.geometry ++ joined blocks ++ behind_blocks k.geometry k.leaves
    (kept_leaves k share) (map tree_root k.block_leaves) k.extension_block share

-- the piece of a share from an offset on, each of whose blocks has the hash that is kept: what
-- stands around the blocks is the share's own
pub record GivesKept (k : KeptFile) (share offset : ℕ) (bytes : List ℕ) : Type 0 where
  pub blocks : List (List ℕ)
  pub hashes : block_hashes blocks ≡ kept_leaves k share
  pub size : length (joined blocks) ≡ share_data_size k.geometry
  pub piece : IsPieceOf (kept_share k blocks share) offset bytes
