-- Shares that are made anew from a padded ciphertext, of which only hashes are kept.
use Rattle.std.specs.Prelude.{◌≡◌, ◌≢◌, ◌⊎◌, ℕ, ◌<◌, None, List, [], length, map, take, drop}
use Rattle.std.specs.Prelude.{slice_index_or}
use Rattle.std.specs.List.{range_with_len}
use Rattle.tagged_hash.specs.Clash.{HasNoClash}
use Rattle.tagged_hash.specs.TaggedHash.{share_digest}
use Rattle.merkle.specs.Inputs.{AreAmong}
use Rattle.merkle.specs.Tree.{tree_root}
use Rattle.cap_text.specs.Cap.{VerifyCapValue, verify_cap_of}
use Rattle.ueb.specs.Shape.{Contents, IsShape, rounded_up}
use Rattle.share_layout.specs.Geometry.{Geometry, geometry_of, with_padding}
use Rattle.share_verify.specs.CapBlock.{IsUebFor, geometry_by}
use Rattle.share_verify.specs.Inputs.{share_inputs}
use Rattle.share_verify.specs.Pieces.{block_hashes}
use Rattle.proved_parts.specs.FileOf.{segment_hashes}
use Rattle.file_encoding.specs.Blocks.{padded_blocks}
use Rattle.file_encoding.specs.Encoding.{Parameters, encoding_of}
use Rattle.file_encoding.specs.Inputs.{encoding_inputs}
use Rattle.file_encoding.specs.Padded.{padded_leaves, padded_sections, padded_shares}
use Rattle.file_encoding.specs.Padded.{plain_segments}
use Rattle.file_encoding.specs.RemadeLaws.{ArePassing}
use Rattle.sources.specs.Change.{DiffersFromFile}
use Rattle.sources.specs.Source.{IsPass}
use Rattle.share_gathering.specs.KeptFile.{GivesKept, KeptFile}
use Rattle.share_gathering.specs.Clash.{HaveClash}

-- ---- the padded ciphertext of a cap's file

-- The text is a padded ciphertext of the cap's file, by an extension block of the cap: the roots
-- over its segments and over its shares are those that the block tells.
pub record IsTextOf (cap : VerifyCapValue) (extension_block : List ℕ) (u : Contents)
    (text : List ℕ) : Type 0 where
  pub ueb : IsUebFor cap extension_block u
  pub size : length text ≡ rounded_up u.size u.needed_shares
  pub ciphertext_root :
      tree_root (segment_hashes (plain_segments (geometry_by u) text)) ≡ u.crypttext_root_hash
  pub share_root : tree_root (padded_leaves (geometry_by u) text) ≡ u.share_root_hash

-- a law: the shares of such a text pass every check, and have one length
abbrev pub TextsPass : Type 0
TextsPass = (cap : VerifyCapValue) (extension_block : List ℕ) (u : Contents) (text : List ℕ)
    → IsTextOf cap extension_block u text
    → ArePassing cap (padded_shares (geometry_by u) text extension_block)

-- The cap is the one of a file's encoding. And no two hash inputs clash among some, which hold what
-- the encoding hashes and what is hashed where the shares of a text are checked.
pub record AreOfFile (file secret : List ℕ) (p : Parameters) (cap : VerifyCapValue)
    (extension_block : List ℕ) (u : Contents) (text : List ℕ) : Type 0 where
  pub shape : IsShape p.needed p.total (length file)
      (geometry_of (length file) p.needed p.total p.max_segment).segment_size
  pub is_cap : cap ≡ verify_cap_of (encoding_of file secret p).cap
  pub inputs : List (List ℕ)
  pub no_clash : HasNoClash inputs
  pub encoded : AreAmong inputs (encoding_inputs file secret p)
  pub checked : (i : ℕ) → i < u.total_shares → AreAmong inputs
      (share_inputs u i (padded_sections (geometry_by u) text extension_block i))

-- ---- what is kept of it

-- the verify cap, and what is kept for its shares
pub record RemadeFile : Type 0 where
  pub cap : VerifyCapValue
  pub kept : KeptFile

-- what is kept of a padded ciphertext, for a cap and with an extension block that is copied
abbrev pub remade_by : Geometry → VerifyCapValue → List ℕ → List ℕ → RemadeFile
remade_by g cap extension_block text = record {
  cap = cap;
  kept = record {
    geometry = with_padding g;
    key = None;
    extension_block = extension_block;
    leaves = segment_hashes (plain_segments g text);
    block_leaves = map (λ i. block_hashes (padded_blocks g i text)) (range_with_len 0 g.total);
    digests = map share_digest (padded_shares g text extension_block);
  };
}

-- The source was read once, and brought a padded ciphertext of the cap's file, of which this is
-- kept. Its shares pass every check for the cap, and where that is the one of a file's encoding,
-- and nothing clashes, they are the encoding's own.
pub record IsRemadeFrom {S : Type 0} (gives : S → ℕ → List ℕ → S → Type 0) (old : S)
    (cap : VerifyCapValue) (extension_block : List ℕ) (u : Contents) (remade : RemadeFile)
    (new : S) : Type 0 where
  pub text : List ℕ
  pub pass : IsPass gives (rounded_up u.size u.needed_shares) old text new
  pub of : IsTextOf cap extension_block u text
  pub is : remade ≡ remade_by (geometry_by u) cap extension_block text
  pub passes : ArePassing cap (padded_shares (geometry_by u) text extension_block)
  pub own : (file secret : List ℕ) (p : Parameters)
      → AreOfFile file secret p cap extension_block u text
      → padded_shares (geometry_by u) text extension_block ≡ (encoding_of file secret p).shares

-- The source was read once, and brought a text with another root over its segments, or over its
-- shares, than the extension block tells.
pub record IsOtherText {S : Type 0} (gives : S → ℕ → List ℕ → S → Type 0) (old : S)
    (u : Contents) (new : S) : Type 0 where
  pub text : List ℕ
  pub pass : IsPass gives (rounded_up u.size u.needed_shares) old text new
  pub other : (tree_root (segment_hashes (plain_segments (geometry_by u) text))
      ≢ u.crypttext_root_hash)
      ⊎ (tree_root (padded_leaves (geometry_by u) text) ≢ u.share_root_hash)

-- for each text whose hashes are kept, the source brought other bytes than the text's, or ended
-- before its end
abbrev pub IsOfNoText : {S : Type 0} → (S → ℕ → List ℕ → S → Type 0) → RemadeFile → S → S → Type 0
IsOfNoText gives remade old new = (extension_block : List ℕ) (u : Contents) (text : List ℕ)
    → IsTextOf remade.cap extension_block u text
    → remade ≡ remade_by (geometry_by u) remade.cap extension_block text
    → DiffersFromFile gives old text new

-- a law: for each text whose hashes are kept, a piece is that of its share, or one of the blocks
-- that it is made of is not the share's and has its hash
abbrev pub PiecesAreRemade : Type 0
PiecesAreRemade = (cap : VerifyCapValue) (extension_block : List ℕ) (u : Contents) (text : List ℕ)
    (remade : RemadeFile) (share offset : ℕ) (bytes : List ℕ)
    → IsTextOf cap extension_block u text
    → remade ≡ remade_by (geometry_by u) cap extension_block text → share < u.total_shares
    → (given : GivesKept remade.kept share offset bytes)
    → (bytes ≡ take (length bytes) (drop offset
    (slice_index_or (padded_shares (geometry_by u) text extension_block) share [])))
    ⊎ HaveClash (padded_blocks (geometry_by u) share text) given.blocks
