-- Words of private clauses: parts of evidence, of segments that were made.
use Rattle.std.specs.Prelude.{◌≡◌, ℕ, ◌<◌, ◌≤◌, List, All, Contains}
use Rattle.request_record.specs.declared.requests.Request.{Request}
use Rattle.proved_parts.specs.declared.evidence.EvidencePart.{EvidencePart}
use Rattle.download_segments.specs.State.{HandoutState}
use Rattle.download_segments.specs.GroupState.{GroupState}
use Rattle.download_file.specs.State.{ReaderState}
use Rattle.download_file.specs.Answers.{IsMade}

-- this segment was made of blocks that the readers of one of these groups hold
pub record IsMadeAmong (entries : List Request) (h : HandoutState) (readers : List ReaderState)
    (groups : List GroupState) (number : ℕ) (segment : List ℕ) : Type 0 where
  pub group : GroupState
  pub among : Contains groups group
  pub from : group.first ≤ number
  pub before : number < group.end
  pub made : IsMade entries h readers group number
  pub is : made.segment ≡ segment

-- so was the segment of each part
abbrev pub AreMadeAmong : List Request → HandoutState → List ReaderState → List GroupState
    → List EvidencePart → Type 0
AreMadeAmong entries h readers groups parts =
    All (λ (p : EvidencePart). IsMadeAmong entries h readers groups p.number p.segment) parts
