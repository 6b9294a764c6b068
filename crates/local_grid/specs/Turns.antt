-- The turns of the loop: each carries one message and its answer, or lets five seconds pass.
use Rattle.std.specs.Prelude.{◌≡◌, ℕ, ◌+◌, ◌-◌, ◌^◌, ◌<◌, ◌≤◌, ◌⊎◌, min, List, [], ◌∷◌, true}
use Rattle.std.specs.Prelude.{false, Option, Some, None, map, length, slice_get, slice_set}
use Rattle.wire.specs.declared.message.Message.{Message}
use Rattle.share_store.specs.Calls.{Calls}
use Rattle.request_record.specs.Operations.{OperationCalls}
use Rattle.local_grid.specs.Nodes.{Carries, Exchanges, NodeState, StopsShort, ticked}

-- the nodes by number, where a node may be missing, and the second
pub record GridState (S L : Type 0) : Type 0 where
  pub nodes : List (Option (NodeState S L))
  pub clock : ℕ

-- five seconds later; the clock stops at its greatest value
abbrev pub later : ℕ → ℕ
later now = min (now + 5) (2 ^ 64 - 1)

-- the grid at a second, of which the nodes take note
abbrev pub passed_to : {S L : Type 0} → ℕ → GridState S L → GridState S L
passed_to now grid = record { nodes = map (ticked now) grid.nodes; clock = now }

-- and five seconds later
abbrev pub passed : {S L : Type 0} → GridState S L → GridState S L
passed grid = passed_to (later grid.clock) grid

-- A message to a node. From one that is missing nothing comes.
abbrev pub AsksAt : {S L : Type 0} → Calls S → Carries L → GridState S L → ℕ
    → Option (Option (NodeState S L)) → Message → Option Message → GridState S L → Type 0
AsksAt calls carries old node None m answer new = (answer ≡ None) × (new ≡ old)
AsksAt calls carries old node (Some None) m answer new = (answer ≡ None) × (new ≡ old)
AsksAt {S = S} {L = L} calls carries old node (Some (Some n)) m answer new =
    (after : NodeState S L) × Exchanges calls carries n m old.clock answer after
    × (new ≡ record { nodes = slice_set old.nodes node (Some after); clock = old.clock })

abbrev pub Asks : {S L : Type 0} → Calls S → Carries L → GridState S L → ℕ → Message
    → Option Message → GridState S L → Type 0
Asks calls carries old node m answer new =
    AsksAt calls carries old node (slice_get old.nodes node) m answer new

-- A message to a node that is there, in which memory is refused.
abbrev pub StopsAt : {S L : Type 0} → Calls S → Carries L → (L → L → Type 0) → GridState S L → ℕ
    → Option (Option (NodeState S L)) → Message → GridState S L → Type 0
StopsAt calls carries gives_up old node None m new = ⊥
StopsAt calls carries gives_up old node (Some None) m new = ⊥
StopsAt {S = S} {L = L} calls carries gives_up old node (Some (Some n)) m new =
    (after : NodeState S L) × StopsShort calls carries gives_up n m old.clock after
    × (new ≡ record { nodes = slice_set old.nodes node (Some after); clock = old.clock })

abbrev pub Stops : {S L : Type 0} → Calls S → Carries L → (L → L → Type 0) → GridState S L → ℕ
    → Message → GridState S L → Type 0
Stops calls carries gives_up old node m new =
    StopsAt calls carries gives_up old node (slice_get old.nodes node) m new

-- an operation, and the grid that it asks
pub record LoopState (O S L : Type 0) : Type 0 where
  pub operation : O
  pub grid : GridState S L

-- The answer comes to the operation, from the node that was asked.
abbrev pub Hears : {O : Type 0} → OperationCalls O → O → ℕ → Option Message → ℕ → O → Type 0
Hears operation old node None now new = new ≡ old
Hears operation old node (Some answer) now new = operation.hears old node answer now new

-- What the operation takes is carried. Where there is nothing to carry five seconds pass, of which
-- the nodes and the operation take note.
abbrev pub GoesOn : {O S L : Type 0} → OperationCalls O → Calls S → Carries L → O → GridState S L
    → Option (ℕ × Message) → LoopState O S L → Type 0
GoesOn operation calls carries taken grid (Some m) new =
    (answer : Option Message) × Asks calls carries grid m.0 m.1 answer new.grid
    × Hears operation taken m.0 answer grid.clock new.operation
GoesOn operation calls carries taken grid None new =
    (new.grid ≡ passed grid) × operation.ticks taken (later grid.clock) new.operation

-- one turn of an operation that runs
pub record Turns {O S L : Type 0} (operation : OperationCalls O) (calls : Calls S)
    (carries : Carries L) (old new : LoopState O S L) : Type 0 where
  pub runs : operation.runs old.operation ≡ true
  pub message : Option (ℕ × Message)
  pub taken : O
  pub takes : operation.takes old.operation message taken
  pub goes_on : GoesOn operation calls carries taken old.grid message new

-- one turn after another, from the first state to the last: the states after the turns
abbrev pub Course : {A : Type 0} → (A → A → Type 0) → A → List A → A → Type 0
Course turn first [] last = last ≡ first
Course turn first (next ∷ states) last = turn first next × Course turn next states last

-- Memory is refused after the operation took what it has to say: on the message's way to its node
-- and back, or to the operation as it hears the answer; or to the operation as it ticks, after the
-- nodes.
abbrev pub StopsAfter : {O S L : Type 0} → OperationCalls O → Calls S → Carries L
    → (L → L → Type 0) → O → GridState S L → Option (ℕ × Message) → LoopState O S L → Type 0
StopsAfter operation calls carries gives_up taken grid (Some m) new =
    ((new.operation ≡ taken) × Stops calls carries gives_up grid m.0 m.1 new.grid)
    ⊎ ((answer : Message) × Asks calls carries grid m.0 m.1 (Some answer) new.grid
    × operation.gives_up taken new.operation)
StopsAfter operation calls carries gives_up taken grid None new =
    (new.grid ≡ passed grid) × operation.gives_up taken new.operation

-- A turn in which memory is refused: to the operation as it takes what it has to say, or after.
abbrev pub IsCutShort : {O S L : Type 0} → OperationCalls O → Calls S → Carries L → (L → L → Type 0)
    → LoopState O S L → LoopState O S L → Type 0
IsCutShort {O = O} operation calls carries gives_up old new =
    (operation.gives_up old.operation new.operation × (new.grid ≡ old.grid))
    ⊎ ((message : Option (ℕ × Message)) × (taken : O) × operation.takes old.operation message taken
    × StopsAfter operation calls carries gives_up taken old.grid message new)

-- so many turns, one after another
abbrev pub TurnsOften : {O S L : Type 0} → OperationCalls O → Calls S → Carries L → ℕ
    → LoopState O S L → LoopState O S L → Type 0
TurnsOften {O = O} {S = S} {L = L} operation calls carries count first last =
    (states : List (LoopState O S L)) × (length states ≡ count)
    × Course (Turns operation calls carries) first states last

-- The operation is at its end after at most so many turns.
abbrev pub Finishes : {O S L : Type 0} → OperationCalls O → Calls S → Carries L → ℕ
    → LoopState O S L → LoopState O S L → Type 0
Finishes operation calls carries most first last =
    (count : ℕ) × (count ≤ most) × TurnsOften operation calls carries count first last
    × (operation.runs last.operation ≡ false)

-- The operation still runs after so many turns.
abbrev pub GoesPast : {O S L : Type 0} → OperationCalls O → Calls S → Carries L → ℕ
    → LoopState O S L → LoopState O S L → Type 0
GoesPast operation calls carries most first last =
    TurnsOften operation calls carries most first last × (operation.runs last.operation ≡ true)

-- After some turns, fewer than that, memory was refused in the next one.
abbrev pub RunsOut : {O S L : Type 0} → OperationCalls O → Calls S → Carries L
    → (L → L → Type 0) → ℕ → LoopState O S L → LoopState O S L → Type 0
RunsOut {O = O} {S = S} {L = L} operation calls carries gives_up most first last =
    (count : ℕ) × (count < most) × (mid : LoopState O S L)
    × TurnsOften operation calls carries count first mid
    × (operation.runs mid.operation ≡ true) × IsCutShort operation calls carries gives_up mid last
