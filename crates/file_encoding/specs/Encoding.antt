-- The encoding of a file: its key, its ciphertext, the blocks and hash trees of its shares, its
-- extension block and its cap. Whole lists, for every k, N and number of segments.
use Rattle.std.specs.Prelude.{ℕ, ◌-◌, ◌/◌, List, [], ◌++◌, length, map, replicate, slice_index_or}
use Rattle.std.specs.Int.{w16, to_be_bytes}
use Rattle.std.specs.List.{flat_map, range_with_len}
use Rattle.aes_ctr.specs.CounterMode.{xored}
use Rattle.merkle.specs.Tree.{height, needed_numbers, tree_nodes, tree_root}
use Rattle.tagged_hash.specs.ConvergentKey.{convergent_key_of}
use Rattle.tagged_hash.specs.TaggedHash.{tagged_hash}
use Rattle.tagged_hash.specs.declared.tag.Tag.TheVariants.{Ciphertext, ExtensionBlock}
use Rattle.zfec_code.specs.ShareValue.{share_block}
use Rattle.cap_text.specs.Cap.{ReadCapValue, read_cap_value}
use Rattle.ueb.specs.Shape.{Contents, rounded_up}
use Rattle.ueb.specs.Block.{ueb_text}
use Rattle.share_layout.specs.Geometry.{Geometry, geometry_of, tree_size}
use Rattle.share_layout.specs.Share.{Sections, share_bytes}
use Rattle.share_verify.specs.Pieces.{block_hashes, joined}
use Rattle.share_layout.specs.Pieces.{segments_of}
use Rattle.proved_parts.specs.FileOf.{segment_hashes}

-- how a file is to be encoded: k of N shares, and the greatest length of a segment
pub record Parameters : Type 0 where
  pub needed : ℕ
  pub total : ℕ
  pub max_segment : ℕ

-- a segment of ciphertext, padded with zero bytes to a multiple of k
abbrev pub padded_segment : ℕ → List ℕ → List ℕ
padded_segment k segment = segment ++ replicate (rounded_up (length segment) k - length segment) 0

-- the block of share i of a segment
abbrev pub block_of : ℕ → ℕ → List ℕ → List ℕ
block_of k i segment = share_block k i (length (padded_segment k segment) / k)
    (padded_segment k segment)

-- the blocks of share i, one for each segment
abbrev pub blocks_of : ℕ → ℕ → List (List ℕ) → List (List ℕ)
blocks_of k i segments = map (block_of k i) segments

-- the leaves of the share tree: the roots of the shares' block trees
abbrev pub share_leaves : Geometry → List (List ℕ) → List (List ℕ)
share_leaves g segments =
    map (λ i. tree_root (block_hashes (blocks_of g.needed i segments))) (range_with_len 0 g.total)

-- the hashes that share i carries of the share tree, each after its node's number in two bytes
abbrev pub share_hashes : List (List ℕ) → ℕ → List ℕ
share_hashes leaves i =
    flat_map (λ n. to_be_bytes w16 n ++ slice_index_or (tree_nodes leaves) n [])
    (needed_numbers (height (length leaves)) i)

-- the sections of share i
abbrev pub sections_of : Geometry → List (List ℕ) → List ℕ → ℕ → Sections
sections_of g segments extension_block i = record {
  blocks = joined (blocks_of g.needed i segments);
  unused = replicate (tree_size g) 0;
  ciphertext_tree = joined (tree_nodes (segment_hashes segments));
  block_tree = joined (tree_nodes (block_hashes (blocks_of g.needed i segments)));
  share_hashes = share_hashes (share_leaves g segments) i;
  extension_block = extension_block;
}

-- what the extension block says of a file and its ciphertext
abbrev pub extension_block_contents : Geometry → List ℕ → List (List ℕ) → Contents
extension_block_contents g ciphertext segments = record {
  needed_shares = g.needed;
  total_shares = g.total;
  size = g.size;
  segment_size = g.segment_size;
  crypttext_hash = tagged_hash Ciphertext ciphertext;
  crypttext_root_hash = tree_root (segment_hashes segments);
  share_root_hash = tree_root (share_leaves g segments);
}

-- a file's encoding: its cap and its shares, by number
pub record Encoding : Type 0 where
  pub cap : ReadCapValue
  pub shares : List (List ℕ)

-- share i of a file
abbrev pub share_of : Geometry → List (List ℕ) → List ℕ → ℕ → List ℕ
share_of g segments extension_block i = share_bytes g (sections_of g segments extension_block i)

-- the encoding of a ciphertext and its key
unfoldable pub ciphertext_encoding : Geometry → List ℕ → List ℕ → Encoding
ciphertext_encoding g key ciphertext =
    let segments = segments_of g ciphertext in
    let extension_block = ueb_text (extension_block_contents g ciphertext segments) in
    record {
      cap = read_cap_value key (tagged_hash ExtensionBlock extension_block) g.needed g.total
          g.size;
      shares = map (share_of g segments extension_block) (range_with_len 0 g.total);
    }

-- the encoding of a file: its key follows from the file, the secret and the geometry
unfoldable pub encoding_of : List ℕ → List ℕ → Parameters → Encoding
encoding_of file secret p =
    let g = geometry_of (length file) p.needed p.total p.max_segment in
    let key = convergent_key_of p.needed p.total g.segment_size secret file in
    ciphertext_encoding g key (xored key file)
