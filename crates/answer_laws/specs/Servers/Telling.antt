-- All that a server over a store that keeps tells of its closed shares.
use Rattle.std.specs.Prelude.{◌≡◌, ◌≤◌, ℕ, Bool, List, Some, Ok, take, drop, Contains}
use Rattle.wire.specs.declared.message.Body.{Body}
use Rattle.wire.specs.declared.message.Body.TheVariants.{Ask, Data, Have, Read}
use Rattle.wire.specs.declared.message.HeldShare.{HeldShare}
use Rattle.wire.specs.declared.message.Message.{Message}
use Rattle.wire.specs.declared.message.ShareId.{ShareId}
use Rattle.share_store.specs.Calls.{shelf_calls}
use Rattle.share_store.specs.Shelf.{Shelf, closed_at, held}
use Rattle.share_store.specs.declared.shelf.ClosedShare.{ClosedShare}
use Rattle.server_core.specs.ServerState.{ServerState, Serves}

-- the answer is a list that has the share of this number with this digest
pub record ListsShare (answer : Body) (share : ℕ) (digest : List ℕ) : Type 0 where
  pub readonly : Bool
  pub found : List HeldShare
  pub is : answer ≡ Have readonly found
  pub listed : Contains found (record { share = share; digest = digest })

-- The answer is the list of the shares that are closed under the storage index, and has each of
-- them. Share numbers are of one byte.
pub record ListsAll (s : Shelf) (index : List ℕ) (answer : Body) : Type 0 where
  pub readonly : Bool
  pub is : answer ≡ Have readonly (held index s.closed)
  pub each : (id : ShareId) (c : ClosedShare) → id.index ≡ index → id.share ≤ 255
      → closed_at id s.closed ≡ Some c → ListsShare answer id.share c.digest

-- The answer has the bytes of the share where it is closed: from an offset on, as many as asked
-- for, and fewer at its end.
abbrev pub BringsClosed : Shelf → ShareId → ℕ → ℕ → Body → Type 0
BringsClosed s id offset len answer = (c : ClosedShare) → closed_at id s.closed ≡ Some c
    → answer ≡ Data (take len (drop offset c.bytes))

-- a law: an answer to an Ask lists every share that is closed under the storage index
abbrev pub AsksListAll : Type 0
AsksListAll = (old new : ServerState Shelf) (from now : ℕ) (request r : Message) (index : List ℕ)
    → request.body ≡ Ask index → Serves shelf_calls old from request now (Ok (Some r)) new
    → ListsAll new.store index r.body

-- a law: a read of a closed share is answered by its bytes
abbrev pub ReadsBringClosed : Type 0
ReadsBringClosed = (old new : ServerState Shelf) (from now : ℕ) (request r : Message) (id : ShareId)
    (offset len : ℕ) → request.body ≡ Read id offset len
    → Serves shelf_calls old from request now (Ok (Some r)) new
    → BringsClosed new.store id offset len r.body
