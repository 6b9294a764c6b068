-- The segments of an encoding are parts of its cap's file.
use Rattle.std.specs.Prelude.{◌≡◌, ℕ, ◌<◌, List, [], length, slice_index_or, All, Contains}
use Rattle.aes_ctr.specs.CounterMode.{xored}
use Rattle.merkle.specs.Inputs.{AreAmong}
use Rattle.merkle.specs.Path.{siblings_of}
use Rattle.tagged_hash.specs.ConvergentKey.{convergent_key_of}
use Rattle.tagged_hash.specs.TaggedHash.{tagged_input}
use Rattle.tagged_hash.specs.declared.tag.Tag.TheVariants.{ExtensionBlock}
use Rattle.cap_text.specs.Cap.{VerifyCapValue, verify_cap_of}
use Rattle.ueb.specs.Block.{ueb_text}
use Rattle.ueb.specs.Shape.{IsShape}
use Rattle.share_layout.specs.Geometry.{Geometry, geometry_of, segment_count}
use Rattle.file_encoding.specs.Encoding.{Parameters, ciphertext_encoding, encoding_of}
use Rattle.file_encoding.specs.Encoding.{extension_block_contents}
use Rattle.proved_parts.specs.Evidence.{evidence_inputs, segments_inputs}
use Rattle.proved_parts.specs.declared.evidence.Evidence.{Evidence}
use Rattle.proved_parts.specs.declared.evidence.EvidencePart.{EvidencePart}
use Rattle.file_encoding.specs.Inputs.{encoding_inputs}
use Rattle.proved_parts.specs.FileOf.{IsFileOf, segment_hashes}
use Rattle.proved_parts.specs.Parts.{IsPartOf}
use Rattle.share_layout.specs.Pieces.{segments_of}

-- each segment of this ciphertext is a part of the cap's file, with its own extension block and its
-- own path
abbrev pub HasParts : VerifyCapValue → Geometry → List ℕ → Type 0
HasParts cap g ciphertext =
    let segments = segments_of g ciphertext in
    let u = extension_block_contents g ciphertext segments in
    (number : ℕ) → number < segment_count g
    → IsPartOf cap (ueb_text u) u number (slice_index_or segments number [])
    (siblings_of (segment_hashes segments) number)

-- a law: each segment of a ciphertext is a part of the file of its encoding's verify cap
abbrev pub EncodingHasParts : Type 0
EncodingHasParts = (g : Geometry) (key ciphertext : List ℕ)
    → IsShape g.needed g.total g.size g.segment_size → length ciphertext ≡ g.size
    → HasParts (verify_cap_of (ciphertext_encoding g key ciphertext).cap) g ciphertext

-- a law: so is each segment of a file's ciphertext, whatever the secret
abbrev pub FileHasParts : Type 0
FileHasParts = (file secret : List ℕ) (p : Parameters)
    → IsShape p.needed p.total (length file)
    (geometry_of (length file) p.needed p.total p.max_segment).segment_size
    → let g = geometry_of (length file) p.needed p.total p.max_segment in
    HasParts (verify_cap_of (encoding_of file secret p).cap) g
    (xored (convergent_key_of p.needed p.total g.segment_size secret file) file)

-- evidence of a ciphertext's own parts: its own extension block, and of each part the segment and
-- the path of its number
pub record IsOwnEvidence (g : Geometry) (ciphertext : List ℕ) (e : Evidence) : Type 0 where
  pub block : e.extension_block
      ≡ ueb_text (extension_block_contents g ciphertext (segments_of g ciphertext))
  pub there : All (λ (p : EvidencePart). p.number < segment_count g) e.parts
  pub segments : All (λ (p : EvidencePart).
      p.segment ≡ slice_index_or (segments_of g ciphertext) p.number []) e.parts
  pub paths : All (λ (p : EvidencePart).
      p.path ≡ siblings_of (segment_hashes (segments_of g ciphertext)) p.number) e.parts

-- a law: what own evidence hashes is hashed for the encoding
abbrev pub OwnEvidenceIsWithin : Type 0
OwnEvidenceIsWithin = (file secret : List ℕ) (p : Parameters) (e : Evidence)
    → let g = geometry_of (length file) p.needed p.total p.max_segment in
    let key = convergent_key_of p.needed p.total g.segment_size secret file in
    IsOwnEvidence g (xored key file) e → AreAmong (encoding_inputs file secret p)
    (evidence_inputs e)

-- a law: a file is the one of its encoding's cap, by the encoding's extension block, whatever the
-- secret
abbrev pub FilesAreOfTheirCaps : Type 0
FilesAreOfTheirCaps = (file secret : List ℕ) (p : Parameters)
    → IsShape p.needed p.total (length file)
    (geometry_of (length file) p.needed p.total p.max_segment).segment_size
    → let g = geometry_of (length file) p.needed p.total p.max_segment in
    let ciphertext = xored (convergent_key_of p.needed p.total g.segment_size secret file) file in
    let u = extension_block_contents g ciphertext (segments_of g ciphertext) in
    IsFileOf (encoding_of file secret p).cap (ueb_text u) u ciphertext file

-- a law: what a file's extension block, its segments and their tree hash is hashed for the encoding
abbrev pub OwnTreesAreWithin : Type 0
OwnTreesAreWithin = (file secret : List ℕ) (p : Parameters)
    → let g = geometry_of (length file) p.needed p.total p.max_segment in
    let ciphertext = xored (convergent_key_of p.needed p.total g.segment_size secret file) file in
    let segments = segments_of g ciphertext in
    Contains (encoding_inputs file secret p)
    (tagged_input ExtensionBlock (ueb_text (extension_block_contents g ciphertext segments)))
    × AreAmong (encoding_inputs file secret p) (segments_inputs segments)
