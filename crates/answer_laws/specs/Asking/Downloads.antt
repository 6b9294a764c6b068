-- What a download asks of all its servers.
use Rattle.std.specs.Prelude.{◌≢◌, ℕ, List, Option}
use Rattle.cap_text.specs.Cap.{ReadCapValue}
use Rattle.wire.specs.declared.message.Message.{Message}
use Rattle.download_segments.specs.declared.piece.Piece.{Piece}
use Rattle.download_core.specs.Moves.{Advances, Begins, StopsAt, TakesPiece, TicksOn}
use Rattle.download_core.specs.Sending.{Takes}
use Rattle.download_core.specs.State.{DownloadState}
use Rattle.download_core.specs.declared.status.DownloadStatus.TheVariants.{Done}
use Rattle.answer_laws.specs.Asking.Asked.{AsksAll}

-- Each of these servers was asked which shares it holds, unless the download is done. One of an
-- empty range is done at once, and asks nobody.
abbrev pub DownloadAsksAll : List ℕ → DownloadState → Type 0
DownloadAsksAll servers d = d.status ≢ Done → AsksAll servers d.requests.entries

-- what a call does to a download leaves it so
abbrev pub GoesOnAsked : (DownloadState → DownloadState → Type 0) → Type 0
GoesOnAsked Goes = (servers : List ℕ) (old new : DownloadState) → Goes old new
    → DownloadAsksAll servers old → DownloadAsksAll servers new

-- a law: a download asks all its servers as it begins, and each call leaves it so
pub record DownloadsAskAll : Type 0 where
  pub begins : (cap : ReadCapValue) (from to : ℕ) (servers : List ℕ) (session now : ℕ)
      (d : DownloadState) → Begins cap from to servers session now d → DownloadAsksAll servers d
  pub advances : (from : ℕ) (m : Message) (now : ℕ) → GoesOnAsked (Advances from m now)
  pub ticks : (now : ℕ) → GoesOnAsked (TicksOn now)
  pub stops : (now : ℕ) → GoesOnAsked (StopsAt now)
  pub sends : (frame : Option (ℕ × Message)) → GoesOnAsked (λ old new. Takes old frame new)
  pub hands : (piece : Option Piece) → GoesOnAsked (λ old new. TakesPiece old piece new)
