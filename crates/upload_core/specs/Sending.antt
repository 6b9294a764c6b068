-- An upload with the source of its shares' bytes, and what it sends.
use Rattle.std.specs.Prelude.{◌≡◌, ℕ, List, Option, Some, None, Result, Ok, Err, length, slice_get}
use Rattle.wire.specs.declared.message.Body.{Body}
use Rattle.wire.specs.declared.message.Body.TheVariants.{Write}
use Rattle.wire.specs.declared.message.Message.{Message}
use Rattle.request_record.specs.declared.requests.Asked.{Asked}
use Rattle.request_record.specs.declared.requests.Asked.TheVariants.{Writing}
use Rattle.request_record.specs.Asking.{Spells, message_at, one_sent}
use Rattle.request_record.specs.declared.requests.Request.{Request}
use Rattle.upload_core.specs.declared.pieces.PieceFault.{PieceFault}
use Rattle.upload_core.specs.declared.status.UploadStatus.{UploadStatus}
use Rattle.upload_core.specs.declared.status.UploadStatus.TheVariants.{Failed, Happy}
use Rattle.upload_core.specs.declared.status.UploadStatus.TheVariants.{Running, Unhappy}
use Rattle.upload_core.specs.State.{UploadState, with_record}

pub record Uploading (P : Type 0) : Type 0 where
  pub pieces : P
  pub course : UploadState

-- nothing is sent after an upload failed
abbrev pub first_of : UploadStatus → List ℕ → Option ℕ
first_of Running outgoing = slice_get outgoing 0
first_of (Happy pairs) outgoing = slice_get outgoing 0
first_of (Unhappy reached blocking) outgoing = slice_get outgoing 0
first_of (Failed fault) outgoing = None

-- the position of the request that is sent next
abbrev pub first_to_send : UploadState → Option ℕ
first_to_send u = first_of u.status u.requests.outgoing

-- the request at a position asks this of a server
abbrev pub AsksAt : UploadState → ℕ → ℕ → Asked → Type 0
AsksAt u position server asked =
    (r : Request) × (slice_get u.requests.entries position ≡ Some r)
    × (r.server ≡ server) × (r.asked ≡ asked)

-- A request is told by a body: a Write's bytes are those that the pieces gave.
abbrev pub Tells : {P : Type 0} → (P → ℕ → ℕ → List ℕ → P → Type 0) → List ℕ → P → Asked → Body
    → P → Type 0
Tells gives index old (Writing share offset len) body new =
    (bytes : List ℕ) × gives old share offset bytes new × (length bytes ≡ len)
    × (body ≡ Write (record { index = index; share = share }) offset bytes)
Tells gives index old asked body new = Spells index asked body × (new ≡ old)

-- the pieces gave none for a Write
abbrev pub Faults : {P : Type 0} → (P → ℕ → ℕ → ℕ → PieceFault → P → Type 0) → P → Asked
    → PieceFault → P → Type 0
Faults fails old (Writing share offset len) fault new = fails old share offset len fault new
Faults fails old asked fault new = ⊥

abbrev pub IsBody : {P : Type 0} → (P → ℕ → ℕ → List ℕ → P → Type 0)
    → (P → ℕ → ℕ → ℕ → PieceFault → P → Type 0) → List ℕ → P → Asked → Result Body PieceFault → P
    → Type 0
IsBody gives fails index old asked (Ok body) new = Tells gives index old asked body new
IsBody gives fails index old asked (Err fault) new = Faults fails old asked fault new

-- What is sent next: nothing, where there is nothing to send or the upload failed; nothing, where
-- the pieces of one that runs gave no bytes, by which it fails; or the first request to send.
pub data Takes {P : Type 0} (gives : P → ℕ → ℕ → List ℕ → P → Type 0)
    (fails : P → ℕ → ℕ → ℕ → PieceFault → P → Type 0) (old : Uploading P)
    (taken : Option (ℕ × Message)) (new : Uploading P) : Type 0 where
  nothing : first_to_send old.course ≡ None → taken ≡ None → new ≡ old
      → Takes gives fails old taken new
  ceases : (position server : ℕ) (asked : Asked) (fault : PieceFault)
      → old.course.status ≡ Running
      → first_to_send old.course ≡ Some position → AsksAt old.course position server asked
      → Faults fails old.pieces asked fault new.pieces → taken ≡ None
      → new.course ≡ record old.course { status = Failed fault } → Takes gives fails old taken new
  sends : (position server : ℕ) (asked : Asked) (body : Body)
      → first_to_send old.course ≡ Some position → AsksAt old.course position server asked
      → Tells gives old.course.goal.cap.storage_index old.pieces asked body new.pieces
      → taken ≡ Some (server, message_at position body old.course.requests)
      → new.course ≡ with_record old.course (one_sent old.course.requests)
      → Takes gives fails old taken new
