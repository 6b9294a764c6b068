-- One step of the world.
use Rattle.std.specs.Prelude.{◌≡◌, ◌≢◌, ◌⊎◌, ℕ, ◌+◌, ◌-◌, ◌≤◌, ◌^◌, ◌==◌, ◌&&◌, min, List, []}
use Rattle.std.specs.Prelude.{◌∷◌, ◌++◌, true, false, Bool, Option, Some, None, Ok, Err, ⊤}
use Rattle.std.specs.Prelude.{if◌then◌else◌, length, map, slice_get, slice_set}
use Rattle.wire.specs.declared.message.Message.{Message}
use Rattle.wire.specs.Frames.{IsBodyOf, IsMessage}
use Rattle.share_store.specs.Memory.{MemoryState, memory_calls}
use Rattle.server_core.specs.ServerState.{ServerState, Outcome, RestartsTo, Serves, Ticks}
use Rattle.server_core.specs.Sound.{is_request}
use Rattle.server_core.specs.declared.error.ServerFault.TheVariants.{OutOfMemory}
use Rattle.checker.specs.Good.{AreGoodShares}
use Rattle.checker.specs.State.{CheckState}
use Rattle.world_operations.specs.declared.job.Job.{Job}
use Rattle.world_operations.specs.declared.message.Sent.{Sent}
use Rattle.world_operations.specs.declared.operation.Life.{Life}
use Rattle.world_operations.specs.declared.operation.Life.TheVariants.{Forgotten, Live, Refused}
use Rattle.world_operations.specs.declared.operation.Operation.{Operation}
use Rattle.world_operations.specs.declared.status.Status.TheVariants.{Done}
use Rattle.world_operations.specs.declared.task.Task.{Task}
use Rattle.world_operations.specs.declared.task.Task.TheVariants.{Checking}
use Rattle.world_operations.specs.Moves.{Begins, IsFlushed, OperationGets, OperationTicks, sent_to}
use Rattle.world_operations.specs.Repairs.{BeginsRepair}
use Rattle.world_operations.specs.Status.{status_of}
use Rattle.world_operations.specs.Tasks.{runs}
use Rattle.world.specs.declared.event.Event.{Event}
use Rattle.world.specs.declared.event.Event.TheVariants.{Start, Repair, Deliver, Forge, Turn}
use Rattle.world.specs.declared.event.Event.TheVariants.{Pass, Tick, Restart, FailStore, Refuse}
use Rattle.world.specs.State.{IsHonest, IsNode, WorldState, nodes_of, servers_of}

-- ---- parts of a world that change

abbrev pub with_server : WorldState → ℕ → ServerState MemoryState → List Sent → WorldState
with_server w node m more =
    record w { servers = slice_set w.servers node m; sent = w.sent ++ more }

abbrev pub with_operation : WorldState → ℕ → Operation → List Sent → WorldState
with_operation w number op more =
    record w { operations = slice_set w.operations number op; sent = w.sent ++ more }

abbrev pub with_sent : WorldState → ℕ → ℕ → List ℕ → WorldState
with_sent w from to body =
    record w { sent = w.sent ++ record { from = from; to = to; body = body } ∷ [] }

-- a liar hears a message
abbrev pub with_heard : WorldState → ℕ → Sent → Option (List Sent) → WorldState
with_heard w position x None = w
with_heard w position x (Some heard) =
    record w { heard = slice_set w.heard position (heard ++ x ∷ []) }

abbrev pub with_life : Life → Operation → Operation
with_life life op = record op { life = life }

-- ---- delivery

abbrev pub answer_to : Sent → Outcome → List Sent
answer_to x (Ok (Some m)) = sent_to x.to x.from m ∷ []
answer_to x (Ok None) = []
answer_to x (Err e) = []

-- an answer can be spelled
abbrev pub IsSpoken : Outcome → Type 0
IsSpoken (Ok (Some m)) = IsMessage m
IsSpoken (Ok None) = ⊤
IsSpoken (Err e) = ⊤

-- a request comes to a server, whose answer is sent
pub record ServerGets (old : WorldState) (x : Sent) (m : Message) (new : WorldState) : Type 0 where
  pub before : ServerState MemoryState
  pub after : ServerState MemoryState
  pub outcome : Outcome
  pub at : slice_get old.servers x.to ≡ Some before
  pub serves : Serves memory_calls before x.from m old.clock outcome after
  pub memory : outcome ≢ Err OutOfMemory
  pub spoken : IsSpoken outcome
  pub is : new ≡ with_server old x.to after (answer_to x outcome)

-- the operation of a message's session is one of its receiver's, and live
pub record IsOperationOf (w : WorldState) (x : Sent) (m : Message) (op : Operation) : Type 0 where
  pub at : slice_get w.operations m.session ≡ Some op
  pub node : op.node ≡ x.to
  pub live : op.life ≡ Live

-- an answer comes to such an operation, or there is none
pub data TaskGets (old : WorldState) (x : Sent) (m : Message) (new : WorldState) : Type 0 where
  gets : (op next : Operation) (more : List Sent) → IsOperationOf old x m op
      → OperationGets x.from m old.clock op more next
      → new ≡ with_operation old m.session next more → TaskGets old x m new
  nobody : ((op : Operation) → IsOperationOf old x m op → ⊥) → new ≡ old → TaskGets old x m new

-- A message comes to its receiver. Bytes that are no body change nothing.
pub data Delivers (old : WorldState) (x : Sent) (new : WorldState) : Type 0 where
  to_liar : length old.servers ≤ x.to
      → new ≡ with_heard old (x.to - length old.servers) x
      (slice_get old.heard (x.to - length old.servers)) → Delivers old x new
  no_body : IsHonest old x.to → ((m : Message) → IsBodyOf m x.body → ⊥) → new ≡ old
      → Delivers old x new
  request : (m : Message) → IsHonest old x.to → IsBodyOf m x.body → is_request m.body ≡ true
      → ServerGets old x m new → Delivers old x new
  answer : (m : Message) → IsHonest old x.to → IsBodyOf m x.body → is_request m.body ≡ false
      → TaskGets old x m new → Delivers old x new

-- ---- starts, ticks and faults

-- an operation that begins
abbrev pub new_operation : ℕ → Job → ℕ → Task → Operation
new_operation node job sent_before task = record {
  node = node;
  job = job;
  sent_before = sent_before;
  life = Live;
  task = task;
  given = [];
}

-- an operation begins with this machine, and what it has to send is sent
pub record Opens (old : WorldState) (node : ℕ) (job : Job) (first : Task) (new : WorldState)
    : Type 0 where
  pub last : Operation
  pub more : List Sent
  pub flushed : IsFlushed (new_operation node job (length old.sent) first) more last
  pub is : new
      ≡ record old { operations = old.operations ++ last ∷ []; sent = old.sent ++ more }

-- an operation is started
pub record Starts (old : WorldState) (node : ℕ) (job : Job) (new : WorldState) : Type 0 where
  pub first : Task
  pub begins : Begins job (servers_of old) (nodes_of old) (length old.operations) old.clock first
  pub opens : Opens old node job first new

-- the operation of this number is a check of this node, and is done
pub record IsDoneCheck (w : WorldState) (node number : ℕ) (check : CheckState) : Type 0 where
  pub operation : Operation
  pub at : slice_get w.operations number ≡ Some operation
  pub own : operation.node ≡ node
  pub checked : operation.task ≡ Checking check
  pub done : status_of operation ≡ Done

-- A repair begins with this job and this machine, of what a check found: of the good shares that it
-- hands out, all shares of its file are made anew.
pub record RepairBegins (w : WorldState) (node number happy : ℕ) (job : Job) (first : Task)
    : Type 0 where
  pub check : CheckState
  pub done : IsDoneCheck w node number check
  pub numbers : List ℕ
  pub strings : List (List ℕ)
  pub good : AreGoodShares check.cap check.requests.entries numbers strings
  pub begins : BeginsRepair check.cap happy numbers strings (servers_of w) (length w.operations)
      w.clock job first

-- a repair is started
pub record RepairStarts (old : WorldState) (node number happy : ℕ) (new : WorldState) : Type 0 where
  pub job : Job
  pub first : Task
  pub begins : RepairBegins old node number happy job first
  pub opens : Opens old node job first new

-- is it a live one of this node?
abbrev pub is_live : Life → Bool
is_live Live = true
is_live Forgotten = false
is_live Refused = false

abbrev pub is_live_at : ℕ → Operation → Bool
is_live_at node op = (op.node == node) && is_live op.life

-- a live operation of a node goes on from a tick; any other stays as it is
abbrev pub TicksOrStays : ℕ → ℕ → Operation → List Sent → Operation → Type 0
TicksOrStays node now op sent next =
    ((is_live_at node op ≡ true) × OperationTicks now op sent next)
    ⊎ ((is_live_at node op ≡ false) × (sent ≡ []) × (next ≡ op))

-- all operations, in order
abbrev pub OperationsTick : ℕ → ℕ → List Operation → List Sent → List Operation → Type 0
OperationsTick node now [] sent [] = sent ≡ []
OperationsTick node now (op ∷ ops) sent (next ∷ rest) =
    (first others : List Sent) × (sent ≡ first ++ others) × TicksOrStays node now op first next
    × OperationsTick node now ops others rest
OperationsTick node now ops sent rest = ⊥

-- the operations of a node tick
pub record HaveTicked (old : WorldState) (node : ℕ) (new : WorldState) : Type 0 where
  pub operations : List Operation
  pub more : List Sent
  pub tasks : OperationsTick node old.clock old.operations more operations
  pub is : new ≡ record old { operations = operations; sent = old.sent ++ more }

-- a node's server and its operations tick
pub record TicksAt (old : WorldState) (node : ℕ) (new : WorldState) : Type 0 where
  pub before : ServerState MemoryState
  pub after : ServerState MemoryState
  pub at : slice_get old.servers node ≡ Some before
  pub server : Ticks before old.clock after
  pub tasks : HaveTicked (record old { servers = slice_set old.servers node after }) node new

-- does an operation run?
abbrev pub is_running : Operation → Bool
is_running op = is_live op.life && runs op.task

abbrev pub IsRunning : Operation → Type 0
IsRunning op = is_running op ≡ true

-- A restart of a node forgets its operations that run. Those that ended stay as they are.
abbrev pub forgotten_by : ℕ → Operation → Operation
forgotten_by node op =
    if (op.node == node) && is_running op then with_life Forgotten op else op

pub record RestartsAt (old : WorldState) (node : ℕ) (new : WorldState) : Type 0 where
  pub before : ServerState MemoryState
  pub after : ServerState MemoryState
  pub at : slice_get old.servers node ≡ Some before
  pub server : RestartsTo memory_calls.restart_gives before after
  pub is : new ≡ record old {
    servers = slice_set old.servers node after;
    operations = map (forgotten_by node) old.operations;
  }

-- a store that fails at its next call that can fail
abbrev pub failing : ServerState MemoryState → ServerState MemoryState
failing m = record m { store = record m.store { failing = true } }

-- The clock stops at its greatest value.
abbrev pub later_by : ℕ → WorldState → WorldState
later_by seconds w = record w { clock = min (w.clock + seconds) (2 ^ 64 - 1) }

-- a liar says something to a node, or nothing
abbrev pub Says : WorldState → ℕ → WorldState → Type 0
Says old liar new =
    (new ≡ old)
    ⊎ ((to : ℕ) × (bytes : List ℕ) × IsNode old to × (new ≡ with_sent old liar to bytes))

-- one event that is taken, from the world before it to the one after it
abbrev pub Step : WorldState → Event → WorldState → Type 0
Step old (Start node job) new = Starts old node job new
Step old (Repair node number happy) new = RepairStarts old node number happy new
Step old (Deliver i) new = (x : Sent) × (slice_get old.sent i ≡ Some x) × Delivers old x new
Step old (Forge liar to bytes) new = new ≡ with_sent old liar to bytes
Step old (Turn liar) new = Says old liar new
Step old (Pass seconds) new = new ≡ later_by seconds old
Step old (Tick node) new = TicksAt old node new
Step old (Restart node) new = RestartsAt old node new
Step old (FailStore node) new =
    (m : ServerState MemoryState) × (slice_get old.servers node ≡ Some m)
    × (new ≡ record old { servers = slice_set old.servers node (failing m) })
Step old (Refuse number) new =
    (op : Operation) × (slice_get old.operations number ≡ Some op) × (new
    ≡ record old { operations = slice_set old.operations number (with_life Refused op) })
