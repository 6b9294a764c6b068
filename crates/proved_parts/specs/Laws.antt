-- Laws of proved parts.
use Rattle.std.specs.Prelude.{◌≡◌, ℕ, ◌<◌, List, [], slice_index_or, Contains}
use Rattle.merkle.specs.Inputs.{AreAmong}
use Rattle.merkle.specs.Path.{siblings_of}
use Rattle.tagged_hash.specs.Clash.{HasNoClash}
use Rattle.tagged_hash.specs.TaggedHash.{tagged_input}
use Rattle.tagged_hash.specs.declared.tag.Tag.TheVariants.{ExtensionBlock}
use Rattle.cap_text.specs.Cap.{ReadCapValue, VerifyCapValue, verify_cap_of}
use Rattle.ueb.specs.Shape.{Contents}
use Rattle.share_layout.specs.Geometry.{Geometry, segment_count}
use Rattle.share_layout.specs.Pieces.{segments_of}
use Rattle.share_verify.specs.CapBlock.{IsUebFor, geometry_by}
use Rattle.proved_parts.specs.FileOf.{IsFileOf, segment_hashes}
use Rattle.proved_parts.specs.Parts.{IsPartOf}
use Rattle.proved_parts.specs.Evidence.{segment_inputs, segments_inputs}

-- a part of the cap's file, with all that is hashed for it among some inputs
pub record IsPartAmong (inputs : List (List ℕ)) (cap : VerifyCapValue) (extension_block : List ℕ)
    (u : Contents) (number : ℕ) (segment : List ℕ) (siblings : List (List ℕ)) : Type 0 where
  pub part : IsPartOf cap extension_block u number segment siblings
  pub block : Contains inputs (tagged_input ExtensionBlock extension_block)
  pub among : AreAmong inputs (segment_inputs number segment siblings)

-- a law: an extension block says one thing
abbrev pub BlocksSayOneThing : Type 0
BlocksSayOneThing = (cap : VerifyCapValue) (block : List ℕ) (u v : Contents)
    → IsUebFor cap block u → IsUebFor cap block v → u ≡ v

-- a law: without a clash two parts of one cap's file with one number have one segment
abbrev pub PartsAgree : Type 0
PartsAgree = (inputs : List (List ℕ)) → HasNoClash inputs → (cap : VerifyCapValue)
    (first second : List ℕ) (u v : Contents) (number : ℕ) (s t : List ℕ)
    (these those : List (List ℕ))
    → IsPartAmong inputs cap first u number s these → IsPartAmong inputs cap second v number t those
    → s ≡ t

-- a law: each segment of the file of a cap is a part of it, whoever wrote its extension block
abbrev pub FilesOfCapsHaveParts : Type 0
FilesOfCapsHaveParts = (cap : ReadCapValue) (extension_block : List ℕ) (u : Contents)
    (ciphertext file : List ℕ) → IsFileOf cap extension_block u ciphertext file
    → let segments = segments_of (geometry_by u) ciphertext in
    (number : ℕ) → number < segment_count (geometry_by u)
    → IsPartOf (verify_cap_of cap) extension_block u number (slice_index_or segments number [])
    (siblings_of (segment_hashes segments) number)

-- a law: what a ciphertext's own parts hash is hashed for its segments and their tree
abbrev pub OwnPartsAreWithin : Type 0
OwnPartsAreWithin = (g : Geometry) (ciphertext : List ℕ) (number : ℕ) → number < segment_count g
    → let segments = segments_of g ciphertext in
    AreAmong (segments_inputs segments)
    (segment_inputs number (slice_index_or segments number [])
    (siblings_of (segment_hashes segments) number))

-- a law: without a clash a part of a cap's file is the segment of that file, where that is known
abbrev pub PartsAreOfTheFile : Type 0
PartsAreOfTheFile = (inputs : List (List ℕ)) → HasNoClash inputs → (cap : ReadCapValue)
    (extension_block other : List ℕ) (u v : Contents) (ciphertext file : List ℕ) (number : ℕ)
    (segment : List ℕ) (siblings : List (List ℕ)) → IsFileOf cap extension_block u ciphertext file
    → let segments = segments_of (geometry_by u) ciphertext in
    Contains inputs (tagged_input ExtensionBlock extension_block)
    → AreAmong inputs (segments_inputs segments)
    → IsPartAmong inputs (verify_cap_of cap) other v number segment siblings
    → segment ≡ slice_index_or segments number []
