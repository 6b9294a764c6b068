-- What pieces of one cap's file have in common, whoever sent them.
use Rattle.std.specs.Prelude.{◌≡◌, ℕ, ◌+◌, List, Some, slice_get, Contains}
use Rattle.tagged_hash.specs.Clash.{HasNoClash}
use Rattle.tagged_hash.specs.TaggedHash.{tagged_input}
use Rattle.tagged_hash.specs.declared.tag.Tag.TheVariants.{ExtensionBlock}
use Rattle.merkle.specs.Inputs.{AreAmong}
use Rattle.cap_text.specs.Cap.{ReadCapValue, verify_cap_of}
use Rattle.ueb.specs.Shape.{Contents}
use Rattle.share_layout.specs.Pieces.{segments_of}
use Rattle.share_verify.specs.CapBlock.{IsUebFor, geometry_by}
use Rattle.proved_parts.specs.Evidence.{segment_inputs, segments_inputs}
use Rattle.proved_parts.specs.FileOf.{IsFileOf}
use Rattle.download_segments.specs.declared.piece.Piece.{Piece}
use Rattle.download_segments.specs.Pieces.{IsGiven}

-- The piece is given by the cap's extension block, and all that is hashed for it is of some kind:
-- the extension block, its segment, and the nodes on the segment's path.
pub record IsGivenIn (IsOne : List ℕ → Type 0) (cap : ReadCapValue) (extension_block : List ℕ)
    (u : Contents) (p : Piece) : Type 0 where
  pub block : IsUebFor (verify_cap_of cap) extension_block u
  pub given : IsGiven cap.key u p
  pub block_hashed : IsOne (tagged_input ExtensionBlock extension_block)
  pub segment_hashed : (input : List ℕ)
      → Contains (segment_inputs given.number given.segment given.siblings) input → IsOne input

-- so it is, and all that is hashed for it is among some inputs
abbrev pub IsGivenAmong : List (List ℕ) → ReadCapValue → List ℕ → Contents → Piece → Type 0
IsGivenAmong inputs cap extension_block u p = IsGivenIn (Contains inputs) cap extension_block u p

-- the piece has this byte of the file, at this position of the file
pub record HasByte (p : Piece) (position byte : ℕ) : Type 0 where
  pub offset : ℕ
  pub position_is : position ≡ p.offset + offset
  pub byte_is : slice_get p.bytes offset ≡ Some byte

-- a law: without a clash no position of a cap's file has two bytes
abbrev pub PiecesAgree : Type 0
PiecesAgree = (inputs : List (List ℕ)) → HasNoClash inputs → (cap : ReadCapValue)
    (first second : List ℕ) (u v : Contents) (p q : Piece)
    → IsGivenAmong inputs cap first u p → IsGivenAmong inputs cap second v q
    → (position a b : ℕ) → HasByte p position a → HasByte q position b → a ≡ b

-- a law: without a clash each byte is the one of the cap's file, where that is known
abbrev pub PiecesAreOfTheFile : Type 0
PiecesAreOfTheFile = (inputs : List (List ℕ)) → HasNoClash inputs → (cap : ReadCapValue)
    (extension_block other : List ℕ) (u v : Contents) (ciphertext file : List ℕ) (p : Piece)
    → IsFileOf cap extension_block u ciphertext file
    → Contains inputs (tagged_input ExtensionBlock extension_block)
    → AreAmong inputs (segments_inputs (segments_of (geometry_by u) ciphertext))
    → IsGivenAmong inputs cap other v p
    → (offset byte : ℕ) → HasByte p offset byte → slice_get file offset ≡ Some byte
