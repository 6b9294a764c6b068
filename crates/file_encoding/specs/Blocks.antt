-- Words of the clauses that write a share in two steps: what needs no other share, and the rest.
use Rattle.std.specs.Prelude.{◌≡◌, ℕ, ◌/◌, List, [], ◌++◌, length, map, replicate, slice_index_or}
use Rattle.std.specs.Int.{w16, to_be_bytes}
use Rattle.std.specs.List.{flat_map}
use Rattle.merkle.specs.Tree.{tree_nodes}
use Rattle.zfec_code.specs.ShareValue.{share_block}
use Rattle.zfec_code.specs.Shares.{Parameters}
use Rattle.ueb.specs.Shape.{rounded_up}
use Rattle.share_layout.specs.Geometry.{Geometry, segment_count, tree_size}
use Rattle.share_layout.specs.Layout.{header}
use Rattle.share_layout.specs.Pieces.{pieces}
use Rattle.share_layout.specs.Writing.{ending}
use Rattle.share_verify.specs.Pieces.{block_hashes, joined}
use Rattle.file_encoding.specs.Drafts.{DraftState}
use Rattle.file_encoding.specs.Encoding.{share_hashes}

-- the block of share i of a segment that is padded already
abbrev pub padded_block : ℕ → ℕ → List ℕ → List ℕ
padded_block k i segment = share_block k i (length segment / k) segment

-- the blocks of share i of a file's text, where the last segment is padded already
abbrev pub padded_blocks : Geometry → ℕ → List ℕ → List (List ℕ)
padded_blocks g i text =
    map (padded_block g.needed i) (pieces (segment_count g) g.segment_size text)

-- what shares are made of fits their file: the code, the padded text, the bytes of the unused tree,
-- and the leaves of the ciphertext tree
pub record FitTogether (g : Geometry) (code : Parameters) (text unused : List ℕ)
    (leaves : List (List ℕ)) : Type 0 where
  pub needed : g.needed ≡ code.k
  pub total : g.total ≡ code.n
  pub padded : length text ≡ rounded_up g.size g.needed
  pub zeros : unused ≡ replicate (tree_size g) 0
  pub count : length leaves ≡ segment_count g

-- a share up to its block tree
abbrev pub share_beginning : Geometry → List (List ℕ) → List (List ℕ) → List ℕ
share_beginning g blocks ciphertext_nodes =
    header g ++ joined blocks ++ replicate (tree_size g) 0
    ++ joined ciphertext_nodes ++ joined (tree_nodes (block_hashes blocks))

-- share i of a file's padded text up to its block tree
abbrev pub draft_of : Geometry → List ℕ → List (List ℕ) → ℕ → DraftState
draft_of g text ciphertext_nodes i = record {
  geometry = g;
  number = i;
  bytes = share_beginning g (padded_blocks g i text) ciphertext_nodes;
}

-- the nodes of these numbers, each behind its number in two bytes
abbrev pub numbered : List (List ℕ) → List ℕ → List ℕ
numbered nodes numbers = flat_map (λ n. to_be_bytes w16 n ++ slice_index_or nodes n []) numbers

-- a share that is written up to its block tree, with the rest
abbrev pub finished : List (List ℕ) → List ℕ → DraftState → List ℕ
finished leaves extension_block d =
    d.bytes ++ share_hashes leaves d.number ++ ending d.geometry extension_block
