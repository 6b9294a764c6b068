-- What a download of a whole file gave is the file of the cap.
use Rattle.std.specs.Prelude.{◌≡◌, ℕ, ◌<◌, List, [], ◌∷◌, ◌++◌, All, Some}
use Rattle.ueb.specs.Shape.{Contents}
use Rattle.proved_parts.specs.FileOf.{IsFileOf}
use Rattle.download_segments.specs.Pieces.{AreConsecutive}
use Rattle.download_segments.specs.declared.piece.Piece.{Piece}
use Rattle.download_file.specs.Answers.{AnsweredWith}
use Rattle.download_file.specs.Whole.{joined}
use Rattle.download_core.specs.Hashed.{IsGivenBy}
use Rattle.download_core.specs.Moves.{TakesPiece}
use Rattle.download_core.specs.Right.{IsRight}
use Rattle.download_core.specs.State.{DownloadState, accepted, handed}

-- these bytes are the file of the cap, by the extension block that the download accepted and a
-- ciphertext
pub record IsWholeFileOf (d : DownloadState) (bytes : List ℕ) : Type 0 where
  pub position : ℕ
  pub is_accepted : accepted d ≡ Some position
  pub extension_block : List ℕ
  pub answer : AnsweredWith d.requests.entries position extension_block
  pub contents : Contents
  pub ciphertext : List ℕ
  pub file : IsFileOf d.cap extension_block contents ciphertext bytes

-- a law: so are the pieces that a download gave, from the file's first byte to its last
abbrev pub WholeFiles : Type 0
WholeFiles = (d : DownloadState) (pieces : List Piece) → IsRight d → 0 < d.cap.size
    → All (IsGivenBy d) pieces → AreConsecutive 0 pieces d.cap.size
    → IsWholeFileOf d (joined pieces)

-- a law: a piece that is taken follows those that were taken before it
abbrev pub TakenFollow : Type 0
TakenFollow = (old new : DownloadState) (from : ℕ) (pieces : List Piece) (p : Piece)
    → IsRight old → TakesPiece old (Some p) new → AreConsecutive from pieces (handed old)
    → AreConsecutive from (pieces ++ p ∷ []) (handed new)
