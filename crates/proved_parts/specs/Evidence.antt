-- Evidence: what shows that segments are those of a cap's file, and what is hashed for it.
use Rattle.std.specs.Prelude.{◌≡◌, ℕ, List, ◌∷◌, ◌++◌, length, map, All, Contains}
use Rattle.std.specs.List.{flat_map}
use Rattle.tagged_hash.specs.TaggedHash.{tagged_hash, tagged_input}
use Rattle.tagged_hash.specs.declared.tag.Tag.TheVariants.{CiphertextSegment, ExtensionBlock}
use Rattle.cap_text.specs.Cap.{VerifyCapValue}
use Rattle.ueb.specs.Shape.{Contents}
use Rattle.share_verify.specs.CapBlock.{IsUebFor}
use Rattle.proved_parts.specs.FileOf.{segment_hashes}
use Rattle.proved_parts.specs.Parts.{IsSegmentBy}
use Rattle.merkle.specs.Inputs.{path_inputs, tree_inputs}
use Rattle.proved_parts.specs.declared.evidence.Evidence.{Evidence}
use Rattle.proved_parts.specs.declared.evidence.EvidencePart.{EvidencePart}

-- the extension block is the cap's, with these contents, and each part is a segment by it
pub record IsProvedBy (cap : VerifyCapValue) (e : Evidence) (u : Contents) : Type 0 where
  pub ueb : IsUebFor cap e.extension_block u
  pub parts : All (λ (p : EvidencePart). IsSegmentBy u p.number p.segment p.path) e.parts

-- the cap proves the evidence
abbrev pub IsProved : VerifyCapValue → Evidence → Type 0
IsProved cap e = (u : Contents) × IsProvedBy cap e u

-- parts with one number have one segment
abbrev pub HaveOneSegment : Evidence → Evidence → Type 0
HaveOneSegment e f = (p q : EvidencePart) → Contains e.parts p → Contains f.parts q
    → p.number ≡ q.number → p.segment ≡ q.segment

-- what a segment and its path hash
abbrev pub segment_inputs : ℕ → List ℕ → List (List ℕ) → List (List ℕ)
segment_inputs number segment path =
    tagged_input CiphertextSegment segment
    ∷ path_inputs (length path) number (tagged_hash CiphertextSegment segment) path

-- what evidence hashes
abbrev pub evidence_inputs : Evidence → List (List ℕ)
evidence_inputs e = tagged_input ExtensionBlock e.extension_block
    ∷ flat_map (λ (p : EvidencePart). segment_inputs p.number p.segment p.path) e.parts

-- what the segments of a ciphertext and their tree hash
abbrev pub segments_inputs : List (List ℕ) → List (List ℕ)
segments_inputs segments =
    map (tagged_input CiphertextSegment) segments ++ tree_inputs (segment_hashes segments)
