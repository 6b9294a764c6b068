-- All that a server's answer tells of its closed shares.
use Rattle.std.specs.Prelude.{◌≡◌, ℕ, List, Some, Ok}
use Rattle.wire.specs.declared.message.Body.{Body}
use Rattle.wire.specs.declared.message.Body.TheVariants.{Ask, Read}
use Rattle.wire.specs.declared.message.Message.{Message}
use Rattle.wire.specs.declared.message.ShareId.{ShareId}
use Rattle.share_store.specs.Calls.{shelf_calls}
use Rattle.share_store.specs.Shelf.{Shelf}
use Rattle.server_core.specs.ServerState.{ServerState, Serves}
use Rattle.server_core.specs.Sound.{IsSound, Tells}
use Rattle.answer_laws.specs.Servers.Telling.{BringsClosed, ListsAll}

-- What an answer to a request tells is so. To an Ask it lists every closed share, and to a read of
-- a closed share it has its bytes.
pub record TellsAll (s : Shelf) (request answer : Body) : Type 0 where
  pub tells : Tells s request answer
  pub lists : (index : List ℕ) → request ≡ Ask index → ListsAll s index answer
  pub brings : (id : ShareId) (offset len : ℕ) → request ≡ Read id offset len
      → BringsClosed s id offset len answer

-- a law: so is each answer of a sound server
abbrev pub ServersTellAll : Type 0
ServersTellAll = (old new : ServerState Shelf) (from now : ℕ) (request r : Message) → IsSound old
    → Serves shelf_calls old from request now (Ok (Some r)) new
    → TellsAll new.store request.body r.body
