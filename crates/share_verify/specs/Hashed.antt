-- A share of which the first blocks are known by their hashes alone.
use Rattle.std.specs.Prelude.{◌≡◌, ℕ, ◌*◌, ◌≤◌, List, length, drop}
use Rattle.share_layout.specs.Geometry.{Geometry, block_size, hashes_size, tree_size}
use Rattle.share_layout.specs.Share.{Sections}
use Rattle.share_verify.specs.Leaves.{AreBlockHashes}
use Rattle.share_verify.specs.declared.hashed.HashSections.{HashSections}
use Rattle.share_verify.specs.declared.hashed.HashedBlocks.{HashedBlocks}

-- the sections of a share that has these blocks and this extension block, and these sections
-- between them
abbrev pub sections_with : HashSections → List ℕ → List ℕ → Sections
sections_with h blocks extension_block = record {
  blocks = blocks;
  unused = h.unused.now;
  ciphertext_tree = h.ciphertext_tree.now;
  block_tree = h.block_tree.now;
  share_hashes = h.share_hashes.now;
  extension_block = extension_block;
}

-- each of them has its length
pub record HaveHashLengths (g : Geometry) (h : HashSections) : Type 0 where
  pub unused : length h.unused.now ≡ tree_size g
  pub ciphertext_tree : length h.ciphertext_tree.now ≡ tree_size g
  pub block_tree : length h.block_tree.now ≡ tree_size g
  pub share_hashes : length h.share_hashes.now ≡ hashes_size g

-- a text begins with whole blocks that have these hashes, and this is what stands behind them
pub record BeginsWith (size : ℕ) (text : List ℕ) (hashes : List (List ℕ)) (rest : List ℕ)
    : Type 0 where
  pub whole : length hashes * size ≤ length text
  pub first : AreBlockHashes hashes size text
  pub behind : rest ≡ drop (length hashes * size) text

-- the blocks of a share of a file with this geometry are this text
abbrev pub AreHashed : Geometry → List ℕ → HashedBlocks → Type 0
AreHashed g text b = BeginsWith (block_size g) text b.hashes.now b.rest.now
