-- How the parts of a world change: one server, or one operation, at its position.
use Rattle.std.specs.Prelude.{◌≡◌, ℕ, List, ◌++◌, Some, slice_get, slice_set}
use Rattle.wire.specs.declared.message.Message.{Message}
use Rattle.share_store.specs.Memory.{MemoryState, memory_calls}
use Rattle.server_core.specs.ServerState.{ServerState, Outcome, Serves}
use Rattle.world_operations.specs.declared.message.Sent.{Sent}
use Rattle.world_operations.specs.declared.operation.Operation.{Operation}
use Rattle.request_record.specs.Follow.{IsSaid, Nothing, Said}
use Rattle.world_operations.specs.Follow.{Moves}
use Rattle.world_operations.specs.Tasks.{IsRightTask, requests_of}

-- the server at a position becomes another, by a relation
pub record ServerBecomes (R : ServerState MemoryState → ServerState MemoryState → Type 0)
    (old : List (ServerState MemoryState)) (position : ℕ)
    (new : List (ServerState MemoryState)) : Type 0 where
  pub before : ServerState MemoryState
  pub after : ServerState MemoryState
  pub at : slice_get old position ≡ Some before
  pub becomes : R before after
  pub is : new ≡ slice_set old position after

abbrev pub ServesBy : ℕ → Message → ℕ → Outcome → ServerState MemoryState → ServerState MemoryState
    → Type 0
ServesBy from m now outcome before after = Serves memory_calls before from m now outcome after

-- The operation at a position becomes another, by a relation that says what is sent.
pub record OperationBecomes (R : Operation → List Sent → Operation → Type 0)
    (old : List Operation) (position : ℕ) (before : List Sent) (new : List Operation)
    (after : List Sent) : Type 0 where
  pub op : Operation
  pub next : Operation
  pub more : List Sent
  pub at : slice_get old position ≡ Some op
  pub becomes : R op more next
  pub is : new ≡ slice_set old position next
  pub appended : after ≡ before ++ more

-- The operation at a position goes on, whatever came of the call, and its machine is right.
pub record OperationMoves (New : Operation → Said) (old : List Operation) (position : ℕ)
    (before : List Sent) (new : List Operation) (after : List Sent) : Type 0 where
  pub op : Operation
  pub next : Operation
  pub at : slice_get old position ≡ Some op
  pub moves : Moves (New op) op next before after
  pub right : IsRightTask next.task
  pub is : new ≡ slice_set old position next

-- by a message, and by nothing new
abbrev pub SaidBy : ℕ → Message → Operation → Said
SaidBy from m op = IsSaid from m (requests_of op.task).session

abbrev pub NothingNew : Operation → Said
NothingNew op = Nothing
