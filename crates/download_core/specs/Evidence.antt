-- What proves the segments that a download made.
use Rattle.std.specs.Prelude.{◌≡◌, ℕ, ◌-◌, All, List, Option, Some, None, map, ⊤}
use Rattle.std.specs.List.{range_with_len}
use Rattle.cap_text.specs.Cap.{VerifyCapValue}
use Rattle.share_layout.specs.Geometry.{segment_count}
use Rattle.proved_parts.specs.Evidence.{IsProvedBy}
use Rattle.proved_parts.specs.declared.evidence.Evidence.{Evidence}
use Rattle.proved_parts.specs.declared.evidence.EvidencePart.{EvidencePart}
use Rattle.request_record.specs.declared.requests.Request.{Request}
use Rattle.download_shares.specs.Reads.{IsAnsweredBy}
use Rattle.download_file.specs.Answers.{IsMadeSegment}
use Rattle.download_file.specs.Right.{made_end}
use Rattle.download_file.specs.State.{FileState}
use Rattle.download_core.specs.State.{Found}

-- The cap proves it by the file's extension block, and it has one part for each segment that was
-- made, in order. Each part has the very segment that was made, of the answers in this record.
pub record ProvesMade (cap : VerifyCapValue) (entries : List Request) (f : FileState)
    (e : Evidence) : Type 0 where
  pub proved : IsProvedBy cap e f.handout.ueb
  pub parts : map (λ (p : EvidencePart). p.number) e.parts
      ≡ range_with_len f.first (made_end f - f.first)
  pub made : All (λ (p : EvidencePart). IsMadeSegment entries f p.number p.segment) e.parts

-- There is evidence as soon as an extension block is accepted.
abbrev pub IsEvidenceOf : VerifyCapValue → List Request → Option Found → Option Evidence → Type 0
IsEvidenceOf cap entries None None = ⊤
IsEvidenceOf cap entries (Some f) (Some e) = ProvesMade cap entries f.file e
IsEvidenceOf cap entries found evidence = ⊥

-- it is what answered the request for the extension block that was accepted
abbrev pub IsAcceptedBlock : List Request → Option Found → List ℕ → Type 0
IsAcceptedBlock entries None block = ⊥
IsAcceptedBlock entries (Some f) block = IsAnsweredBy entries f.position block

-- there is a part for each segment of the file
abbrev pub HasAllParts : Option Found → Option Evidence → Type 0
HasAllParts (Some f) (Some e) = map (λ (p : EvidencePart). p.number) e.parts
    ≡ range_with_len 0 (segment_count f.file.handout.geometry)
HasAllParts found evidence = ⊤
