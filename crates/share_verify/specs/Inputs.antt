-- What is hashed where a share is checked.
use Rattle.std.specs.Prelude.{◌≡◌, ℕ, List, [], ◌∷◌, ◌++◌, map, unwrap_or}
use Rattle.std.specs.List.{range_with_len}
use Rattle.tagged_hash.specs.TaggedHash.{tagged_input}
use Rattle.tagged_hash.specs.declared.tag.Tag.TheVariants.{Block, ExtensionBlock}
use Rattle.merkle.specs.Inputs.{path_inputs, tree_inputs}
use Rattle.merkle.specs.Path.{LeadsBy}
use Rattle.merkle.specs.Tree.{height, leaves_among, sibling_number, tree_root}
use Rattle.cap_text.specs.Cap.{VerifyCapValue}
use Rattle.ueb.specs.Shape.{Contents}
use Rattle.share_layout.specs.Geometry.{block_size, segment_count}
use Rattle.share_layout.specs.Pieces.{pieces}
use Rattle.share_layout.specs.Share.{Sections}
use Rattle.share_verify.specs.CapBlock.{geometry_by}
use Rattle.share_verify.specs.Pieces.{block_hashes}
use Rattle.share_verify.specs.ShareHashes.{carried_hash, entries_in}
use Rattle.share_verify.specs.TreeSection.{hashes_in, root_in}
use Rattle.share_verify.specs.Verify.{IsSound}

-- the blocks of a share
abbrev pub blocks_in : Contents → Sections → List (List ℕ)
blocks_in u s =
    let g = geometry_by u in pieces (segment_count g) (block_size g) s.blocks

-- the leaves of the tree in a section
abbrev pub leaves_of : Contents → List ℕ → List (List ℕ)
leaves_of u section = leaves_among (hashes_in section) (segment_count (geometry_by u))

-- the siblings that the share hashes give a leaf of the share tree, from the leaf upward
abbrev pub siblings_in : ℕ → ℕ → List (List ℕ) → List (List ℕ)
siblings_in total leaf entries =
    map (λ i. unwrap_or (carried_hash entries (sibling_number (height total) leaf i)) [])
    (range_with_len 0 (height total))

-- the hash inputs of a share: its extension block, its blocks, the ciphertext tree, the block tree,
-- and the way from the block tree's root to the root over all shares
abbrev pub share_inputs : Contents → ℕ → Sections → List (List ℕ)
share_inputs u num s =
    tagged_input ExtensionBlock s.extension_block
    ∷ map (tagged_input Block) (blocks_in u s)
    ++ tree_inputs (leaves_of u s.ciphertext_tree)
    ++ tree_inputs (leaves_of u s.block_tree)
    ++ path_inputs (height u.total_shares) num (root_in s.block_tree)
    (siblings_in u.total_shares num (entries_in s.share_hashes))

-- these hashes lead to what the extension block tells
pub record DoLead (u : Contents) (num : ℕ) (s : Sections) : Type 0 where
  pub ciphertext : tree_root (leaves_of u s.ciphertext_tree) ≡ u.crypttext_root_hash
  pub blocks : leaves_of u s.block_tree ≡ block_hashes (blocks_in u s)
  pub block_root : tree_root (leaves_of u s.block_tree) ≡ root_in s.block_tree
  pub share_hashes : LeadsBy u.total_shares u.share_root_hash num (root_in s.block_tree)
      (siblings_in u.total_shares num (entries_in s.share_hashes))

-- a law: those of a share that passes all that `verify_share` asks do
abbrev pub SoundSharesLead : Type 0
SoundSharesLead = (cap : VerifyCapValue) (num : ℕ) (share : List ℕ) (u : Contents) (s : Sections)
    → IsSound cap num share u s → DoLead u num s
