-- Servers of this process and servers elsewhere, side by side.
use Rattle.std.specs.Prelude.{◌≡◌, ◌≢◌, ◌≤◌, ◌⊎◌, ⊤, ℕ, ◌==◌, List, [], ◌∷◌, Option, Some, None}
use Rattle.std.specs.Prelude.{map}
use Rattle.std.specs.Prelude.{if◌then◌else◌, option_map, slice_get, slice_set}
use Rattle.wire.specs.declared.message.Message.{Message}
use Rattle.share_store.specs.Calls.{Calls}
use Rattle.connections.specs.Wires.{WireCalls}
use Rattle.local_grid.specs.Nodes.{Carries}
use Rattle.local_grid.specs.Turns.{Asks, GridState, Stops, later, passed_to}
use Rattle.local_grid.specs.declared.outside.Happening.{Happening}
use Rattle.local_grid.specs.declared.outside.Happening.TheVariants as happening
use Rattle.served_grid.specs.declared.remote.Came.{Came}
use Rattle.served_grid.specs.Heard.{messages_of}
use Rattle.local_grid.specs.Outside.{OutsideCalls}
use Rattle.served_grid.specs.Remotes.{Gives, IsAsked, Reaches, RemoteState, ticked_remote}

-- the servers of this process and the clock, and the servers elsewhere by number
pub record ServedState (S L W : Type 0) : Type 0 where
  pub here : GridState S L
  pub remotes : List (Option (RemoteState W))

-- ---- what is asked

-- A message to a server elsewhere is queued, and nothing is answered at once. One to any other
-- number is answered by the server of this process, as in a grid of one process.
abbrev pub HandsAt : {S L W : Type 0} → Calls S → Carries L → ServedState S L W → ℕ
    → Option (Option (RemoteState W)) → Message → Option Message → ServedState S L W → Type 0
HandsAt {W = W} calls carries old node (Some (Some r)) m answer new =
    (answer ≡ None) × (asked : RemoteState W) × IsAsked r m asked
    × (new ≡ record old { remotes = slice_set old.remotes node (Some asked) })
HandsAt calls carries old node (Some None) m answer new =
    Asks calls carries old.here node m answer new.here × (new.remotes ≡ old.remotes)
HandsAt calls carries old node None m answer new =
    Asks calls carries old.here node m answer new.here × (new.remotes ≡ old.remotes)

-- A message to a server, in which memory is refused.
abbrev pub StopsAt : {S L W : Type 0} → Calls S → Carries L → (L → L → Type 0)
    → ServedState S L W → ℕ → Option (Option (RemoteState W)) → Message → ServedState S L W
    → Type 0
StopsAt {W = W} calls carries gives_up old node (Some (Some r)) m new =
    (new ≡ old) ⊎ ((reached : RemoteState W) × Reaches r.connection r reached
    × (new ≡ record old { remotes = slice_set old.remotes node (Some reached) }))
StopsAt calls carries gives_up old node (Some None) m new =
    Stops calls carries gives_up old.here node m new.here × (new.remotes ≡ old.remotes)
StopsAt calls carries gives_up old node None m new =
    Stops calls carries gives_up old.here node m new.here × (new.remotes ≡ old.remotes)

-- ---- what happens

-- A server elsewhere that is there gave these messages. Where none is there none came.
abbrev pub GivesAt : {W : Type 0} → WireCalls W → Option (Option (RemoteState W))
    → List Message → Option (Option (RemoteState W)) → Type 0
GivesAt wires (Some (Some was)) messages (Some (Some is)) = Gives wires was messages is
GivesAt wires (Some None) messages (Some None) = messages ≡ []
GivesAt wires None messages None = messages ≡ []
GivesAt wires was messages is = ⊥

-- So it is at each number.
abbrev pub AllGive : {W : Type 0} → WireCalls W → List (Option (RemoteState W))
    → (ℕ → List Message) → List (Option (RemoteState W)) → Type 0
AllGive wires old messages new =
    (number : ℕ) → GivesAt wires (slice_get old number) (messages number) (slice_get new number)

-- nothing of any server, and one message of one server
abbrev pub nothing : ℕ → List Message
nothing number = []

abbrev pub only : ℕ → Message → ℕ → List Message
only node m number = if number == node then m ∷ [] else []

-- The clock stays, and this is what was heard of servers elsewhere.
pub record HearsAll {S L W : Type 0} (wires : WireCalls W) (old : ServedState S L W)
    (messages : ℕ → List Message) (new : ServedState S L W) : Type 0 where
  pub here : new.here ≡ old.here
  pub gave : AllGive wires old.remotes messages new.remotes

-- A second passes, of which all servers take note. It is at most five seconds later.
pub record Passes {S L W : Type 0} (wires : WireCalls W) (old : ServedState S L W) (second : ℕ)
    (new : ServedState S L W) : Type 0 where
  pub later_on : old.here.clock ≤ second
  pub soon : second ≤ later old.here.clock
  pub heard : List (Option (RemoteState W))
  pub gave : AllGive wires old.remotes nothing heard
  pub after : new ≡ record {
    here = passed_to second old.here;
    remotes = map (option_map ticked_remote) heard;
  }

-- A message came: one server elsewhere gave it over its connection, and no other one gave any. Or a
-- second passed.
abbrev pub Happens : {S L W : Type 0} → WireCalls W → ServedState S L W → Happening
    → ServedState S L W → Type 0
Happens wires old (happening.Came node m) new = HearsAll wires old (only node m) new
Happens wires old (happening.Second second) new = Passes wires old second new

-- without servers elsewhere no other second comes than the next tick
abbrev pub IsNextAlone : {S L W : Type 0} → ServedState S L W → Happening → Type 0
IsNextAlone old (happening.Came node m) = ⊤
IsNextAlone old (happening.Second second) = old.remotes ≡ [] → second ≡ later old.here.clock

-- ---- words of private clauses

-- a server elsewhere has this number
abbrev pub IsFar : {W : Type 0} → Option (Option (RemoteState W)) → Type 0
IsFar (Some (Some r)) = ⊤
IsFar (Some None) = ⊥
IsFar None = ⊥

-- what was heard of the server of a number, and nothing of any other one
abbrev pub heard_of : ℕ → Came → ℕ → List Message
heard_of node came number = if number == node then messages_of came else []

-- A message came, or none.
abbrev pub Brings : {S L W : Type 0} → WireCalls W → ServedState S L W → Option (ℕ × Message)
    → ServedState S L W → Type 0
Brings wires old None new = HearsAll wires old nothing new
Brings wires old (Some came) new = HearsAll wires old (only came.0 came.1) new

-- so many seconds later, of which all take note
abbrev pub passed_all : {S L W : Type 0} → ℕ → ServedState S L W → ServedState S L W
passed_all second g = record {
  here = passed_to second g.here;
  remotes = map (option_map ticked_remote) g.remotes;
}

-- ---- all calls

abbrev pub served_calls : {S L W : Type 0} → Calls S → Carries L → (L → L → Type 0)
    → WireCalls W → OutsideCalls (ServedState S L W)
served_calls calls carries gives_up wires = record {
  clock = λ g. g.here.clock;
  handed = λ old node m answer new.
      HandsAt calls carries old node (slice_get old.remotes node) m answer new;
  happened = λ old happening new. Happens wires old happening new × IsNextAlone old happening;
  hand_stops = λ old node m new.
      StopsAt calls carries gives_up old node (slice_get old.remotes node) m new;
  wait_stops = λ old new. HearsAll wires old nothing new × (old.remotes ≢ []);
}
