-- Evidence of a download is of the bytes that it gave.
use Rattle.std.specs.Prelude.{Contains, Some}
use Rattle.cap_text.specs.Cap.{ReadCapValue, verify_cap_of}
use Rattle.ueb.specs.Shape.{Contents}
use Rattle.proved_parts.specs.Evidence.{IsProvedBy}
use Rattle.proved_parts.specs.declared.evidence.Evidence.{Evidence}
use Rattle.proved_parts.specs.declared.evidence.EvidencePart.{EvidencePart}
use Rattle.download_segments.specs.Pieces.{IsSlice}
use Rattle.download_segments.specs.declared.piece.Piece.{Piece}
use Rattle.download_core.specs.Evidence.{IsEvidenceOf}
use Rattle.download_core.specs.Hashed.{IsGivenBy}
use Rattle.download_core.specs.Right.{IsRight}
use Rattle.download_core.specs.State.{DownloadState}

-- The cap proves the evidence, and the piece is a slice of the segment of one of its parts,
-- decrypted.
pub record IsProvedIn (cap : ReadCapValue) (e : Evidence) (p : Piece) : Type 0 where
  pub contents : Contents
  pub proved : IsProvedBy (verify_cap_of cap) e contents
  pub part : EvidencePart
  pub among : Contains e.parts part
  pub slice : IsSlice cap.key contents.segment_size part.number part.segment p

-- a law: so is each piece that a download gave, in its evidence
abbrev pub EvidenceIsOfTheGiven : Type 0
EvidenceIsOfTheGiven = (d : DownloadState) (e : Evidence) (p : Piece) → IsRight d
    → IsEvidenceOf (verify_cap_of d.cap) d.requests.entries d.found (Some e) → IsGivenBy d p
    → IsProvedIn d.cap e p
