-- The turns of clients: whom the server answers, and to whom the answers go.
use Rattle.std.specs.Prelude.{◌≡◌, ◌⊎◌, ⊤, ℕ, Bool, true, false, List, [], ◌∷◌, Option, Some}
use Rattle.std.specs.Prelude.{None, Ok, Err, if◌then◌else◌, option_map, slice_get, slice_set}
use Rattle.wire.specs.declared.message.Message.{Message}
use Rattle.share_store.specs.Calls.{Calls}
use Rattle.server_core.specs.declared.error.ServerFault.TheVariants.{OutOfMemory, StoreFault}
use Rattle.server_core.specs.ServerState.{LetsGoOfEnded, Outcome, ServerState, Serves}
use Rattle.server_core.specs.ServerState.{without_client}
use Rattle.connections.specs.declared.fault.ConnectionFault.{ConnectionFault}
use Rattle.connections.specs.Wires.{WireCalls}
use Rattle.connections.specs.Connections.{ConnectionState, Gives}
use Rattle.connections.specs.Courses.{Course, Event, bytes_come, bytes_go, given, is_given}
use Rattle.connections.specs.Courses.{is_queued, queued}
use Rattle.grid_serving.specs.Places.{ClientState, holds_at, is_greeting, woken}
use Rattle.grid_serving.specs.declared.client.TurnFault.{TurnFault}
use Rattle.grid_serving.specs.declared.client.TurnFault.TheVariants as why

-- ---- one client

-- A message for which the server had not enough memory ends the program.
abbrev pub HadMemory : Outcome → Type 0
HadMemory (Ok answer) = ⊤
HadMemory (Err StoreFault) = ⊤
HadMemory (Err OutOfMemory) = ⊥

-- The server serves these messages of a client, one after the other, with these outcomes. It had
-- memory for each.
abbrev pub ServesAll : {S : Type 0} → Calls S → ℕ → ℕ → ServerState S → List Message
    → List Outcome → ServerState S → Type 0
ServesAll calls node now before [] [] after = after ≡ before
ServesAll {S} calls node now before (m ∷ ms) (outcome ∷ outcomes) after =
    (mid : ServerState S) × Serves calls before node m now outcome mid × HadMemory outcome
    × ServesAll calls node now mid ms outcomes after
ServesAll calls node now before ms outcomes after = ⊥

-- the answers among outcomes
abbrev pub answers_of : List Outcome → List Message
answers_of [] = []
answers_of (Ok (Some answer) ∷ outcomes) = answer ∷ answers_of outcomes
answers_of (Ok None ∷ outcomes) = answers_of outcomes
answers_of (Err fault ∷ outcomes) = answers_of outcomes

-- What is done for a client in a turn. What happens over its connection is a course of it: the
-- messages that were given there, which are those whose frames came over it, the server served as
-- this client's, in their order; and what was queued there are its answers to them, in their order,
-- and nothing else.
pub record Serving {W S : Type 0} (wires : WireCalls W) (calls : Calls S) (node now : ℕ)
    (old : ConnectionState W) (before : ServerState S) (new : ConnectionState W)
    (after : ServerState S) : Type 0 where
  pub events : List Event
  pub course : Course wires old events new
  pub outcomes : List Outcome
  pub serves : ServesAll calls node now before (given events) outcomes after
  pub answers : queued events ≡ answers_of outcomes

-- a byte came or went
abbrev pub is_moved : List Event → Bool
is_moved [] = false
is_moved (bytes_come [] ∷ events) = is_moved events
is_moved (bytes_come (byte ∷ bytes) ∷ events) = true
is_moved (bytes_go [] ∷ events) = is_moved events
is_moved (bytes_go (byte ∷ bytes) ∷ events) = true
is_moved (is_given m ∷ events) = is_moved events
is_moved (is_queued m ∷ events) = is_moved events

-- the second at which bytes came or went last
abbrev pub moved_after : ℕ → List Event → ℕ → ℕ
moved_after now events before = if is_moved events then now else before

-- The turn of a client, where it does not break off.
pub record HasTurn {W S : Type 0} (wires : WireCalls W) (calls : Calls S) (node now : ℕ)
    (old : ClientState W) (before : ServerState S) (new : ClientState W)
    (after : ServerState S) : Type 0 where
  pub serving : Serving wires calls node now old.connection before new.connection after
  pub came : new.came ≡ old.came
  pub moved : new.moved ≡ moved_after now serving.events old.moved

-- What came of the last message, where a turn breaks off: for want of memory alone the program
-- ends.
abbrev pub IsLast : TurnFault → Outcome → Type 0
IsLast (why.Ended fault) outcome = HadMemory outcome
IsLast why.OutOfMemory outcome = outcome ≡ Err OutOfMemory

-- One message more was given at the connection, and served as this client's. It has no answer.
pub record IsUnanswered {W S : Type 0} (calls : Calls S) (node now : ℕ) (fault : TurnFault)
    (old : ConnectionState W) (before : ServerState S) (after : ServerState S) : Type 0 where
  pub message : Message
  pub rest : ConnectionState W
  pub gives : Gives old message rest
  pub outcome : Outcome
  pub cause : IsLast fault outcome
  pub serves : Serves calls before node message now outcome after

-- Where its connection ended, there may be no message without an answer.
abbrev pub Ends : {W S : Type 0} → Calls S → ℕ → ℕ → TurnFault → ConnectionState W
    → ServerState S → ServerState S → Type 0
Ends calls node now (why.Ended fault) here mid after =
    (after ≡ mid) ⊎ IsUnanswered calls node now (why.Ended fault) here mid after
Ends calls node now why.OutOfMemory here mid after =
    IsUnanswered calls node now why.OutOfMemory here mid after

-- A turn breaks off with a fault, so that its client is gone.
pub record BreaksOff {W S : Type 0} (wires : WireCalls W) (calls : Calls S) (node now : ℕ)
    (fault : TurnFault) (old : ConnectionState W) (before : ServerState S)
    (after : ServerState S) : Type 0 where
  pub here : ConnectionState W
  pub mid : ServerState S
  pub turn : Serving wires calls node now old before here mid
  pub last : Ends calls node now fault here mid after

-- ---- all clients

-- The turn of a client breaks off. It is gone, and its buckets end. Then the store lets go of
-- shares that have none.
pub record IsCutOff {W S : Type 0} (wires : WireCalls W) (calls : Calls S) (node now : ℕ)
    (fault : TurnFault) (old : ClientState W) (before : ServerState S)
    (after : ServerState S) : Type 0 where
  pub mid : ServerState S
  pub turn : BreaksOff wires calls node now fault old.connection before mid
  pub lets_go : LetsGoOfEnded calls (without_client node mid) after

-- What becomes of the client at a place, and of the server, in its turn. Where its connection ends
-- it is gone.
abbrev pub TurnsTo : {W S : Type 0} → WireCalls W → Calls S → ℕ → ℕ → Option (ClientState W)
    → ServerState S → Option (ClientState W) → ServerState S → Type 0
TurnsTo wires calls node now None before new after = (new ≡ None) × (after ≡ before)
TurnsTo {S = S} wires calls node now (Some old) before (Some new) after =
    (mid : ServerState S) × HasTurn wires calls node now old before new mid
    × LetsGoOfEnded calls mid after
TurnsTo wires calls node now (Some old) before None after =
    (fault : ConnectionFault) × IsCutOff wires calls node now (why.Ended fault) old before after

-- The client at a place is cut off by a fault, and nobody is there.
abbrev pub IsCutOffAt : {W S : Type 0} → WireCalls W → Calls S → ℕ → ℕ → TurnFault
    → Option (ClientState W) → ServerState S → Option (ClientState W) → ServerState S → Type 0
IsCutOffAt wires calls node now fault (Some old) before None after =
    IsCutOff wires calls node now fault old before after
IsCutOffAt wires calls node now fault was before next after = ⊥

-- The client at a place has its turn. Those at the others are as they were.
pub record ServesAt {W S : Type 0} (wires : WireCalls W) (calls : Calls S) (node now : ℕ)
    (old : List (Option (ClientState W))) (before : ServerState S)
    (new : List (Option (ClientState W))) (after : ServerState S) : Type 0 where
  pub was : Option (ClientState W)
  pub here : slice_get old node ≡ Some was
  pub next : Option (ClientState W)
  pub turn : TurnsTo wires calls node now was before next after
  pub others : new ≡ slice_set old node next

-- The server had not enough memory for a message of the client at a place.
pub record FailsAt {W S : Type 0} (wires : WireCalls W) (calls : Calls S) (node now : ℕ)
    (old : List (Option (ClientState W))) (before : ServerState S)
    (new : List (Option (ClientState W))) (after : ServerState S) : Type 0 where
  pub was : ClientState W
  pub here : slice_get old node ≡ Some (Some was)
  pub turn : IsCutOff wires calls node now why.OutOfMemory was before after
  pub others : new ≡ slice_set old node None

-- These clients have their turns, one after the other.
abbrev pub ServesInTurn : {W S : Type 0} → WireCalls W → Calls S → List ℕ → ℕ
    → List (Option (ClientState W)) → ServerState S → List (Option (ClientState W))
    → ServerState S → Type 0
ServesInTurn wires calls [] now old before new after = (new ≡ old) × (after ≡ before)
ServesInTurn {W} {S} wires calls (node ∷ nodes) now old before new after =
    (next : List (Option (ClientState W))) × ((mid : ServerState S)
    × ServesAt wires calls node now old before next mid
    × ServesInTurn wires calls nodes now next mid new after)

-- They have their turns, until there is not enough memory for a message of one.
abbrev pub FailsInTurn : {W S : Type 0} → WireCalls W → Calls S → List ℕ → ℕ
    → List (Option (ClientState W)) → ServerState S → List (Option (ClientState W))
    → ServerState S → Type 0
FailsInTurn wires calls [] now old before new after = ⊥
FailsInTurn {W} {S} wires calls (node ∷ nodes) now old before new after =
    FailsAt wires calls node now old before new after
    ⊎ ((next : List (Option (ClientState W))) × ((mid : ServerState S)
    × ServesAt wires calls node now old before next mid
    × FailsInTurn wires calls nodes now next mid new after))

-- The client at a place is gone, and its buckets end.
pub record LeavesAt {W S : Type 0} (calls : Calls S) (node : ℕ)
    (old : List (Option (ClientState W))) (before : ServerState S)
    (new : List (Option (ClientState W))) (after : ServerState S) : Type 0 where
  pub others : new ≡ slice_set old node None
  pub server : LetsGoOfEnded calls (without_client node before) after

-- These clients are gone, one after the other.
abbrev pub LeaveInTurn : {W S : Type 0} → Calls S → List ℕ → List (Option (ClientState W))
    → ServerState S → List (Option (ClientState W)) → ServerState S → Type 0
LeaveInTurn calls [] old before new after = (new ≡ old) × (after ≡ before)
LeaveInTurn {W} {S} calls (node ∷ nodes) old before new after =
    (next : List (Option (ClientState W))) × ((mid : ServerState S)
    × LeavesAt calls node old before next mid × LeaveInTurn calls nodes next mid new after)

-- Room is made where somebody has not greeted: one of those is gone.
abbrev pub MakesRoom : {W S : Type 0} → Calls S → List (Option (ClientState W)) → ServerState S
    → List (Option (ClientState W)) → ServerState S → Type 0
MakesRoom calls old before new after =
    ((new ≡ old) × (after ≡ before))
    ⊎ ((node : ℕ) × (holds_at is_greeting old node ≡ true)
    × LeavesAt calls node old before new after)

-- There may be something to do for the client at a place, if one is there.
pub record WakesAt {W : Type 0} (node : ℕ) (old new : List (Option (ClientState W))) : Type 0 where
  pub was : Option (ClientState W)
  pub here : slice_get old node ≡ Some was
  pub others : new ≡ slice_set old node (option_map woken was)

-- So it is with these clients, one after the other.
abbrev pub WakeInTurn : {W : Type 0} → List ℕ → List (Option (ClientState W))
    → List (Option (ClientState W)) → Type 0
WakeInTurn [] old new = new ≡ old
WakeInTurn {W} (node ∷ nodes) old new =
    (next : List (Option (ClientState W))) × WakesAt node old next × WakeInTurn nodes next new

-- ---- words of private clauses

-- Bytes come or go over a connection, and nothing else happens.
pub record Moves {W : Type 0} (wires : WireCalls W) (old new : ConnectionState W) : Type 0 where
  pub events : List Event
  pub course : Course wires old events new
  pub none_given : given events ≡ []
  pub none_queued : queued events ≡ []

-- So it is at a client. When it came stays, and bytes that came or went did so now.
pub record MovesNow {W : Type 0} (wires : WireCalls W) (now : ℕ) (old new : ClientState W)
    : Type 0 where
  pub moves : Moves wires old.connection new.connection
  pub came : new.came ≡ old.came
  pub moved : new.moved ≡ moved_after now moves.events old.moved

-- a message was served, and has no answer
pub record IsServed {S : Type 0} (calls : Calls S) (node now : ℕ) (fault : TurnFault)
    (m : Message) (before after : ServerState S) : Type 0 where
  pub outcome : Outcome
  pub cause : IsLast fault outcome
  pub serves : Serves calls before node m now outcome after

-- a message was served, and its answer is put behind what waits
pub record Answers {W S : Type 0} (wires : WireCalls W) (calls : Calls S) (node now : ℕ)
    (m : Message) (old : ConnectionState W) (before : ServerState S) (new : ConnectionState W)
    (after : ServerState S) : Type 0 where
  pub outcome : Outcome
  pub memory : HadMemory outcome
  pub serves : Serves calls before node m now outcome after
  pub events : List Event
  pub course : Course wires old events new
  pub none_given : given events ≡ []
  pub none_moved : is_moved events ≡ false
  pub answers : queued events ≡ answers_of (outcome ∷ [])
