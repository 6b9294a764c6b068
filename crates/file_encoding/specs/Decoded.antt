-- A file as shares of it give it: its padded text, and what all its shares have in common.
use Rattle.std.specs.Prelude.{◌≡◌, ℕ, ◌≤◌, List, length}
use Rattle.cap_text.specs.Cap.{VerifyCapValue}
use Rattle.merkle.specs.Tree.{tree_root}
use Rattle.ueb.specs.Limits.{max_length}
use Rattle.ueb.specs.Shape.{Contents, rounded_up}
use Rattle.share_layout.specs.Geometry.{Geometry, IsGeometry, segment_count}
use Rattle.share_verify.specs.CapBlock.{IsUebFor, geometry_by}
use Rattle.proved_parts.specs.FileOf.{segment_hashes}
use Rattle.file_encoding.specs.Padded.{padded_leaves, padded_shares, plain_segments}
use Rattle.file_encoding.specs.Reading.{Agree, AreLeaves, TakenShare, Takes, blocks_in, numbers_of}
use Rattle.file_encoding.specs.Regenerated.{DecodeTo}

-- the padded text, the leaves of the ciphertext tree, the root over the shares, and the extension
-- block
pub record DecodedState : Type 0 where
  pub geometry : Geometry
  pub text : List ℕ
  pub leaves : List (List ℕ)
  pub share_root : List ℕ
  pub extension_block : List ℕ

-- the value of a decoded file with these fields
abbrev pub decoded_state : Geometry → List ℕ → List (List ℕ) → List ℕ → List ℕ → DecodedState
decoded_state geometry text leaves share_root extension_block = record {
  geometry = geometry;
  text = text;
  leaves = leaves;
  share_root = share_root;
  extension_block = extension_block;
}

-- the text has the file's length, and its segments have these leaves
pub record IsWholeText (d : DecodedState) : Type 0 where
  pub valid : IsGeometry d.geometry
  pub size : length d.text ≡ rounded_up d.geometry.size d.geometry.needed
  pub leaves_are : segment_hashes (plain_segments d.geometry d.text) ≡ d.leaves
  pub short : length d.extension_block ≤ max_length

-- It is what strings that come with their numbers give of a cap's file: of the lowest numbers that
-- pass, as many as are needed, and of each the first string that passes.
pub record IsDecodedFrom (cap : VerifyCapValue) (numbers : List ℕ) (strings : List (List ℕ))
    (d : DecodedState) : Type 0 where
  pub taken : List TakenShare
  pub takes : Takes cap numbers strings taken
  pub u : Contents
  pub ueb : IsUebFor cap d.extension_block u
  pub agree : Agree taken d.extension_block u
  pub geometry : d.geometry ≡ geometry_by u
  pub are_leaves : AreLeaves taken d.leaves
  pub count : length d.leaves ≡ segment_count (geometry_by u)
  pub ciphertext_root : tree_root d.leaves ≡ u.crypttext_root_hash
  pub share_root : d.share_root ≡ u.share_root_hash
  pub decoded : DecodeTo (geometry_by u) (numbers_of taken) (blocks_in taken) d.text

-- the shares that are made of a decoded file, where the root over them is the one that is told
pub record AreMade (d : DecodedState) (made : List (List ℕ)) : Type 0 where
  pub root : tree_root (padded_leaves d.geometry d.text) ≡ d.share_root
  pub are : made ≡ padded_shares d.geometry d.text d.extension_block
