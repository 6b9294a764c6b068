-- Laws of files that are read.
use Rattle.std.specs.Prelude.{◌≡◌, ℕ, List, ◌∷◌}
use Rattle.request_record.specs.declared.requests.Request.{Request}
use Rattle.download_segments.specs.declared.piece.Piece.{Piece}
use Rattle.download_file.specs.State.{FileState, IsHeard, IsReader, ReaderState}
use Rattle.download_file.specs.Answers.{IsGivenBy, IsRead, KeepsAnswers}
use Rattle.download_file.specs.Right.{IsFile}
use Rattle.download_file.specs.Taking.{KnowsProof}
use Rattle.download_file.specs.declared.reader.Waiting.{Waiting}

-- a law: where answers stay, what the record says of the file stays true
abbrev pub ReadsStay : Type 0
ReadsStay = (old new : List Request) (f : FileState) → KeepsAnswers old new → IsRead old f
    → IsRead new f

-- a law: where answers stay, what was given of the file stays given
abbrev pub GivenStays : Type 0
GivenStays = (old new : List Request) (f : FileState) (p : Piece) → KeepsAnswers old new
    → IsRead old f → IsGivenBy old f p → IsGivenBy new f p

-- a law: what proves the first part that waits of a reader, read or put aside, is known
abbrev pub FirstPartsAreProved : Type 0
FirstPartsAreProved = (f : FileState) (reader : ℕ) (r : ReaderState) (first : Waiting)
    (others : List Waiting) → IsFile f → IsHeard f reader → IsReader f reader r
    → r.waiting ≡ first ∷ others → KnowsProof f.handout f.first f.end r first.wanted.part
