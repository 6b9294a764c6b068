-- How an honest server stood whenever it answered: what was closed then is closed ever after.
use Rattle.std.specs.Prelude.{◌≡◌, ℕ, ◌<◌, ◌≤◌, List, false, Some, Contains, slice_get}
use Rattle.wire.specs.declared.message.Message.{Message}
use Rattle.wire.specs.Frames.{IsBodyOf}
use Rattle.share_store.specs.Memory.{MemoryState}
use Rattle.share_store.specs.Shelf.{Shelf}
use Rattle.server_core.specs.ServerState.{ServerState}
use Rattle.server_core.specs.Sound.{ClosedStay, IsAnswer, is_request}
use Rattle.answer_laws.specs.Enough.Servers.{TellsAll}
use Rattle.world_operations.specs.declared.message.Sent.{Sent}
use Rattle.world_operations.specs.declared.operation.Operation.{Operation}
use Rattle.world.specs.State.{shelved}

-- The answer belongs to a request that was sent, and tells all that is so of a server that stood
-- so.
pub record IsAnswerBy (sent : List Sent) (x : Sent) (answer : Message) (s : Shelf) : Type 0 where
  pub frame : Sent
  pub request : Message
  pub was_sent : Contains sent frame
  pub spelled : IsBodyOf request frame.body
  pub from : frame.from ≡ x.to
  pub to : frame.to ≡ x.from
  pub answers : IsAnswer s request answer
  pub all : TellsAll s request.body answer.body

-- The shelf of a server at each moment, from which nothing goes away that is closed. Each of its
-- answers tells how it stood then. Moments are positions in the list of what was sent.
pub record HasHistory (sent : List Sent) (node : ℕ) (m : ServerState MemoryState) : Type 0 where
  pub shelf_at : ℕ → Shelf
  pub stays : (i j : ℕ) → i ≤ j → ClosedStay (shelf_at i) (shelf_at j)
  pub last : (i : ℕ) → ClosedStay (shelf_at i) (shelved m).store
  pub answers : (moment : ℕ) (x : Sent) (answer : Message) → slice_get sent moment ≡ Some x
      → x.from ≡ node → IsBodyOf answer x.body → is_request answer.body ≡ false
      → IsAnswerBy sent x answer (shelf_at moment)

-- No honest server answered an honest node in the session of an operation before that began.
abbrev pub AnswersComeAfter : ℕ → List Operation → List Sent → Type 0
AnswersComeAfter honest operations sent = (moment : ℕ) (x : Sent) (answer : Message)
    (op : Operation) → slice_get sent moment ≡ Some x → x.from < honest → x.to < honest
    → IsBodyOf answer x.body → is_request answer.body ≡ false
    → slice_get operations answer.session ≡ Some op → op.sent_before ≤ moment
