-- What it says that a download was carried, and its bytes written.
use Rattle.std.specs.Prelude.{◌≡◌, ℕ, ◌-◌, ◌^◌, min, All, List, [], Option, Some, Ok, Err, Result}
use Rattle.std.specs.Prelude.{⊤, slice_get}
use Rattle.std.specs.Io.KnownBytes.{Appends}
use Rattle.cap_text.specs.Cap.{ReadCapValue}
use Rattle.wire.specs.declared.message.Body.{Body}
use Rattle.request_record.specs.declared.requests.Outcome.TheVariants.{Answered}
use Rattle.request_record.specs.declared.requests.Request.{Request}
use Rattle.download_segments.specs.Pieces.{AreConsecutive}
use Rattle.download_segments.specs.declared.piece.Piece.{Piece}
use Rattle.download_file.specs.Whole.{joined}
use Rattle.download_core.specs.Hashed.{IsGivenBy}
use Rattle.download_core.specs.Moves.{Begins}
use Rattle.download_core.specs.Right.{IsRight}
use Rattle.download_core.specs.State.{DownloadState, handed, ready}
use Rattle.local_grid.specs.Turns.{Course}
use Rattle.local_grid.specs.Outside.{OutsideCalls}
use Rattle.local_grid.specs.OutsideTurns.{LoopState, Turns}
use Rattle.carried_operations.specs.Came.{Came}
use Rattle.carried_operations.specs.Handing.{Hands, handing_calls}
use Rattle.carried_operations.specs.declared.downloads.Carried.{Carried}
use Rattle.carried_operations.specs.declared.downloads.CutShort.{CutShort}
use Rattle.carried_operations.specs.declared.downloads.CutShort.TheVariants.{Loop, Writer}

-- a download that has just begun
pub record HasBegun (d : DownloadState) : Type 0 where
  pub cap : ReadCapValue
  pub from : ℕ
  pub to : ℕ
  pub servers : List ℕ
  pub session : ℕ
  pub now : ℕ
  pub begins : Begins cap from to servers session now d

-- A download was carried, turn after turn, and handed out these pieces, one behind another from its
-- first byte on. Each of them was given by the download, which is right and is for the same cap.
-- Each answer that it has came in one of the turns, from the server that was asked.
pub record IsCarried {G : Type 0} (calls : OutsideCalls G) (begun : DownloadState) (old : G)
    (pieces : List Piece) (ended : DownloadState) (new : G) : Type 0 where
  pub states : List (LoopState DownloadState G)
  pub turns : Course (Turns handing_calls calls) (record { operation = begun; outside = old })
      states (record { operation = ended; outside = new })
  pub cap : ended.cap ≡ begun.cap
  pub to : ended.to ≡ begun.to
  pub right : IsRight ended
  pub given : All (IsGivenBy ended) pieces
  pub consecutive : AreConsecutive begun.from pieces (handed ended)
  pub came : (position : ℕ) (r : Request) (said : Body)
      → slice_get ended.requests.entries position ≡ Some r → r.outcome ≡ Answered said
      → Came handing_calls calls begun.requests.session
      (record { operation = begun; outside = old }) states position r.server r.asked said

-- Where it was the writer that failed, nothing is known of what it holds.
abbrev pub UnlessWriter : CutShort → Type 0 → Type 0
UnlessWriter Writer known = ⊤
UnlessWriter (Loop error) known = known

abbrev pub UnlessWriterFailed : Result (Unit {0}) CutShort → Type 0 → Type 0
UnlessWriterFailed (Ok tt) known = known
UnlessWriterFailed (Err cut) known = UnlessWriter cut known

-- an offset as a number of 64 bits
abbrev pub capped : ℕ → ℕ
capped offset = min offset (2 ^ 64 - 1)

-- A download that was carried as far as it goes: nothing that it made is left, and its bytes were
-- written up to this offset.
pub record IsDone {G : Type 0} (reached : DownloadState) (outside : G) (c : Carried) (new : G)
    : Type 0 where
  pub download_is : reached ≡ c.download
  pub outside_is : outside ≡ new
  pub all : ready reached ≡ []
  pub offset_is : c.offset ≡ capped (handed reached)

-- A download was carried and its pieces were written, up to where memory was refused or the writer
-- failed. The last state that it reached is its own where it was carried as far as it goes.
pub record IsWritten {G : Type 0} (calls : OutsideCalls G) (begun : DownloadState) (old : G)
    (before : Option (List ℕ)) (c : Carried) (new : G) (after : Option (List ℕ)) : Type 0 where
  pub reached : DownloadState
  pub outside : G
  pub pieces : List Piece
  pub carried : IsCarried calls begun old pieces reached outside
  pub written : UnlessWriterFailed c.ended (Appends before after (joined pieces))
  pub done : c.ended ≡ Ok tt → IsDone reached outside c new

-- ---- words of private clauses

-- All that is ready is taken, piece after piece, each given by the download, and written.
pub record Writes (old : DownloadState) (before : Option (List ℕ)) (new : DownloadState)
    (after : Option (List ℕ)) : Type 0 where
  pub pieces : List Piece
  pub hands : Hands pieces old new
  pub all : ready new ≡ []
  pub right : IsRight new
  pub given : All (IsGivenBy new) pieces
  pub consecutive : AreConsecutive (handed old) pieces (handed new)
  pub added : Appends before after (joined pieces)

-- One turn, after which all that is ready is taken and written.
pub record TurnsAndWrites {G : Type 0} (calls : OutsideCalls G) (old : LoopState DownloadState G)
    (before : Option (List ℕ)) (new : LoopState DownloadState G) (after : Option (List ℕ))
    : Type 0 where
  pub turn : Turns handing_calls calls old new
  pub pieces : List Piece
  pub all : ready new.operation ≡ []
  pub right : IsRight new.operation
  pub given : All (IsGivenBy new.operation) pieces
  pub consecutive : AreConsecutive (handed old.operation) pieces (handed new.operation)
  pub added : Appends before after (joined pieces)
