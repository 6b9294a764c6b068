-- One message to a server over its link, and what comes back.
use Rattle.std.specs.Prelude.{◌≡◌, ℕ, max, Bool, true, false, Option, Some, None, Ok, Err}
use Rattle.std.specs.Prelude.{◌⊎◌, is_none, if◌then◌else◌}
use Rattle.std.specs.List.{filter}
use Rattle.wire.specs.declared.message.Message.{Message}
use Rattle.share_store.specs.Calls.{Calls}
use Rattle.server_core.specs.declared.error.ServerFault.TheVariants.{OutOfMemory, StoreFault}
use Rattle.server_core.specs.ServerState.{ServerState, Outcome, Serves, is_fresh_at}
use Rattle.local_grid.specs.declared.link.Way.{Way}
use Rattle.local_grid.specs.declared.link.Way.TheVariants.{ToServer, ToClient}

-- the client's node
abbrev pub client_node : ℕ
client_node = 256

-- a server with its link, and whether nothing comes from it any more
pub record NodeState (S L : Type 0) : Type 0 where
  pub server : ServerState S
  pub link : L
  pub silent : Bool

-- a message goes a way over a link: what comes out at its end, if anything does
abbrev pub Carries : Type 0 → Type 1
Carries L = L → Way → Message → Option Message → L → Type 0

-- The server's answer goes back. What is lost on its way, or failed at the store, makes the node
-- silent; where the server has nothing to say, nothing is sent.
abbrev pub GoesBack : {L : Type 0} → Carries L → L → Outcome → Option Message → L → Bool → Type 0
GoesBack carries link (Ok None) answer after silent =
    (answer ≡ None) × (after ≡ link) × (silent ≡ false)
GoesBack carries link (Ok (Some said)) answer after silent =
    carries link ToClient said answer after × (silent ≡ is_none answer)
GoesBack carries link (Err StoreFault) answer after silent =
    (answer ≡ None) × (after ≡ link) × (silent ≡ true)
GoesBack carries link (Err OutOfMemory) answer after silent = ⊥

-- What came to the server is served as the client's, at a second.
pub record IsServed {S L : Type 0} (calls : Calls S) (carries : Carries L) (old : NodeState S L)
    (came : Message) (now : ℕ) (answer : Option Message) (new : NodeState S L) : Type 0 where
  pub outcome : Outcome
  pub serves : Serves calls old.server client_node came now outcome new.server
  pub back : GoesBack carries old.link outcome answer new.link new.silent

-- the node with its link after the message's way to it
abbrev pub with_link : {S L : Type 0} → NodeState S L → L → NodeState S L
with_link n link = record { server = n.server; link = link; silent = n.silent }

-- the node, silent from now on
abbrev pub silenced : {S L : Type 0} → NodeState S L → L → NodeState S L
silenced n link = record { server = n.server; link = link; silent = true }

-- A message that is lost on its way makes the node silent.
abbrev pub IsMet : {S L : Type 0} → Calls S → Carries L → NodeState S L → L → Option Message → ℕ
    → Option Message → NodeState S L → Type 0
IsMet calls carries old link None now answer new =
    (answer ≡ None) × (new ≡ silenced old link)
IsMet calls carries old link (Some came) now answer new =
    IsServed calls carries (with_link old link) came now answer new

-- A message to a node at a second, and what comes back. A silent node stays as it is.
pub record Exchanges {S L : Type 0} (calls : Calls S) (carries : Carries L) (old : NodeState S L)
    (m : Message) (now : ℕ) (answer : Option Message) (new : NodeState S L) : Type 0 where
  pub silent : old.silent ≡ true → (answer ≡ None) × (new ≡ old)
  pub heard : old.silent ≡ false → (link : L) × (came : Option Message)
      × carries old.link ToServer m came link × IsMet calls carries old link came now answer new

-- What came to the server, and memory is refused: by the server, or on the answer's way back.
abbrev pub IsLeftUnanswered : {S L : Type 0} → Calls S → (L → L → Type 0) → NodeState S L → Message
    → ℕ → NodeState S L → Type 0
IsLeftUnanswered calls gives_up old came now new =
    (Serves calls old.server client_node came now (Err OutOfMemory) new.server
    × (new.link ≡ old.link))
    ⊎ ((said : Message) × Serves calls old.server client_node came now (Ok (Some said)) new.server
    × gives_up old.link new.link)

-- A message to a node at a second, in which memory is refused: on the way to the server, or after
-- that. The node goes on speaking.
pub record StopsShort {S L : Type 0} (calls : Calls S) (carries : Carries L)
    (gives_up : L → L → Type 0) (old : NodeState S L) (m : Message) (now : ℕ)
    (new : NodeState S L) : Type 0 where
  pub spoke : old.silent ≡ false
  pub speaks : new.silent ≡ false
  pub stops : ((new.server ≡ old.server) × gives_up old.link new.link)
      ⊎ ((link : L) × (came : Message) × carries old.link ToServer m (Some came) link
      × IsLeftUnanswered calls gives_up (with_link old link) came now new)

-- A server at a second drops the buckets that were left too long, as `Ticks` says.
abbrev pub ticked_server : {S : Type 0} → ℕ → ServerState S → ServerState S
ticked_server now s =
    record {
      store = s.store;
      buckets = filter (is_fresh_at (max s.clock now)) s.buckets;
      clock = max s.clock now;
      capacity = s.capacity;
      readonly = s.readonly;
    }

abbrev pub ticked_node : {S L : Type 0} → ℕ → NodeState S L → NodeState S L
ticked_node now n =
    if n.silent
    then n
    else record { server = ticked_server now n.server; link = n.link; silent = n.silent }

-- A node that is missing or silent stays so.
abbrev pub ticked : {S L : Type 0} → ℕ → Option (NodeState S L) → Option (NodeState S L)
ticked now None = None
ticked now (Some n) = Some (ticked_node now n)
