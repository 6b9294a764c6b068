-- The turns of the loop. In each the operation's next message goes to its server; or, where it has
-- none, it hears a message from the server that it came from, or takes note of a second.
use Rattle.std.specs.Prelude.{◌≡◌, ℕ, ◌<◌, ◌≤◌, ◌⊎◌, List, length, true, false, Option, Some, None}
use Rattle.wire.specs.declared.message.Message.{Message}
use Rattle.request_record.specs.Operations.{OperationCalls}
use Rattle.local_grid.specs.Turns.{Course, Hears}
use Rattle.local_grid.specs.declared.outside.Happening.{Happening}
use Rattle.local_grid.specs.declared.outside.Happening.TheVariants.{Came, Second}
use Rattle.local_grid.specs.Outside.{OutsideCalls}

-- an operation, and the servers that it asks
pub record LoopState (O G : Type 0) : Type 0 where
  pub operation : O
  pub outside : G

-- What happens comes to the operation: a message from the server that it came from, at the second
-- that is, or the second.
abbrev pub Meets : {O : Type 0} → OperationCalls O → O → Happening → ℕ → O → Type 0
Meets operation old (Came node message) now new = operation.hears old node message now new
Meets operation old (Second second) now new = operation.ticks old second new

-- What the operation takes is handed on, and what answers at once is heard at once. Where there is
-- nothing to hand on the operation meets what happens.
abbrev pub GoesOn : {O G : Type 0} → OperationCalls O → OutsideCalls G → O → G
    → Option (ℕ × Message) → LoopState O G → Type 0
GoesOn operation calls taken outside (Some m) new =
    (answer : Option Message) × calls.handed outside m.0 m.1 answer new.outside
    × Hears operation taken m.0 answer (calls.clock new.outside) new.operation
GoesOn operation calls taken outside None new =
    (happening : Happening) × calls.happened outside happening new.outside
    × Meets operation taken happening (calls.clock new.outside) new.operation

-- one turn of an operation that runs
pub record Turns {O G : Type 0} (operation : OperationCalls O) (calls : OutsideCalls G)
    (old new : LoopState O G) : Type 0 where
  pub runs : operation.runs old.operation ≡ true
  pub message : Option (ℕ × Message)
  pub taken : O
  pub takes : operation.takes old.operation message taken
  pub goes_on : GoesOn operation calls taken old.outside message new

-- Memory is refused after the operation took what it has to say: as that is handed on, or as the
-- operation waits; or to the operation, as it hears what came or takes note of the second.
abbrev pub StopsAfter : {O G : Type 0} → OperationCalls O → OutsideCalls G → O → G
    → Option (ℕ × Message) → LoopState O G → Type 0
StopsAfter operation calls taken outside (Some m) new =
    ((new.operation ≡ taken) × calls.hand_stops outside m.0 m.1 new.outside)
    ⊎ ((answer : Message) × calls.handed outside m.0 m.1 (Some answer) new.outside
    × operation.gives_up taken new.operation)
StopsAfter operation calls taken outside None new =
    ((new.operation ≡ taken) × calls.wait_stops outside new.outside)
    ⊎ ((happening : Happening) × calls.happened outside happening new.outside
    × operation.gives_up taken new.operation)

-- A turn in which memory is refused: to the operation as it takes what it has to say, or after.
abbrev pub IsCutShort : {O G : Type 0} → OperationCalls O → OutsideCalls G → LoopState O G
    → LoopState O G → Type 0
IsCutShort {O = O} operation calls old new =
    (operation.gives_up old.operation new.operation × (new.outside ≡ old.outside))
    ⊎ ((message : Option (ℕ × Message)) × (taken : O) × operation.takes old.operation message taken
    × StopsAfter operation calls taken old.outside message new)

-- so many turns, one after another
abbrev pub TurnsOften : {O G : Type 0} → OperationCalls O → OutsideCalls G → ℕ
    → LoopState O G → LoopState O G → Type 0
TurnsOften {O = O} {G = G} operation calls count first last =
    (states : List (LoopState O G)) × (length states ≡ count)
    × Course (Turns operation calls) first states last

-- The operation is at its end after at most so many turns.
abbrev pub Finishes : {O G : Type 0} → OperationCalls O → OutsideCalls G → ℕ
    → LoopState O G → LoopState O G → Type 0
Finishes operation calls most first last =
    (count : ℕ) × (count ≤ most) × TurnsOften operation calls count first last
    × (operation.runs last.operation ≡ false)

-- The operation still runs after so many turns.
abbrev pub GoesPast : {O G : Type 0} → OperationCalls O → OutsideCalls G → ℕ
    → LoopState O G → LoopState O G → Type 0
GoesPast operation calls most first last =
    TurnsOften operation calls most first last × (operation.runs last.operation ≡ true)

-- After some turns, fewer than that, memory was refused in the next one.
abbrev pub RunsOut : {O G : Type 0} → OperationCalls O → OutsideCalls G → ℕ
    → LoopState O G → LoopState O G → Type 0
RunsOut {O = O} {G = G} operation calls most first last =
    (count : ℕ) × (count < most) × (mid : LoopState O G)
    × TurnsOften operation calls count first mid
    × (operation.runs mid.operation ≡ true) × IsCutShort operation calls mid last
