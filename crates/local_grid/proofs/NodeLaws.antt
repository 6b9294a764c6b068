-- A message to a node.
use Rattle.std.proofs.Common.{◌≡◌, ℕ, ◌<◌, max, List, Bool, true, false, cond, map, Option, Some, None, Result, Ok, Err, inl, inr, length, get_or, refl, sym, ap, subst, ◌∙◌, true≢false}
use Rattle.std.specs.Prelude.{OnErr, slice_get, slice_set}
use Rattle.std.proofs.lemmas.List.{set-get_or}
use Rattle.std.proofs.lemmas.Option.{slice_get_read}
use Rattle.wire.specs.declared.message.Message.{Message}
use Rattle.share_store.specs.Calls.{Calls}
use Rattle.local_grid.specs.declared.link.Way.TheVariants.{ToServer}
use Rattle.server_core.specs.declared.bucket.Bucket.{Bucket}
use Rattle.server_core.specs.declared.error.ServerFault.TheVariants.{OutOfMemory}
use Rattle.server_core.specs.ServerState.{ServerState, Outcome, Serves, Ticks}
use Rattle.local_grid.specs.Nodes.{Carries, Exchanges, IsLeftUnanswered, IsMet, NodeState, StopsShort, client_node, ticked, ticked_node, ticked_server, with_link}
use Rattle.local_grid.specs.Turns.{Asks, AsksAt, GridState, Stops, StopsAt, passed_to}

module _ {S L : Type 0} (calls : Calls S) (carries : Carries L) where
  -- a node that is not silent
  pub exchanged : (old : NodeState S L) (m : Message) (now : ℕ) (link : L) (came answer : Option Message) (new : NodeState S L)
      → old.silent ≡ false → carries old.link ToServer m came link → IsMet calls carries old link came now answer new → Exchanges calls carries old m now answer new
  exchanged old m now link came answer new speaks carried met =
      record { silent = λ e. absurd (true≢false (sym e ∙ speaks)); heard = λ _. (link, came, carried, met) }

  module _ (old before : GridState S L) (position node : ℕ) (item : Option (NodeState S L)) (same : before ≡ old) (number : position ≡ node) (within : position < length before.nodes) (value : item ≡ get_or before.nodes position item) where
    at : slice_get before.nodes position ≡ Some item
    at = slice_get_read before.nodes (length before.nodes) position item refl within value

    -- a node that is there
    pub asked : (m : Message) (answer : Option Message) (n after : NodeState S L) → item ≡ Some n → Exchanges calls carries n m before.clock answer after
        → Asks calls carries old node m answer (record { nodes = slice_set before.nodes position (Some after); clock = before.clock })
    asked m answer n after is exchanges =
        let there : slice_get before.nodes position ≡ Some (Some n) = at ∙ ap Some is in
        subst (λ (o : GridState S L). Asks calls carries o node m answer (record { nodes = slice_set before.nodes position (Some after); clock = before.clock })) same
        (subst (λ (k : ℕ). Asks calls carries before k m answer (record { nodes = slice_set before.nodes position (Some after); clock = before.clock })) number
        (subst (λ (o : Option (Option (NodeState S L))). AsksAt calls carries before position o m answer (record { nodes = slice_set before.nodes position (Some after); clock = before.clock })) (sym there) (after, exchanges, refl)))

    -- a node that is missing
    pub missed : (m : Message) → item ≡ None → Asks calls carries old node m None (record { nodes = slice_set before.nodes position item; clock = before.clock })
    missed m is =
        let there : slice_get before.nodes position ≡ Some None = at ∙ ap Some is in
        let stays : slice_set before.nodes position item ≡ before.nodes = ap (λ (x : Option (NodeState S L)). slice_set before.nodes position x) value ∙ set-get_or before.nodes position item in
        let new : GridState S L = record { nodes = slice_set before.nodes position item; clock = before.clock } in
        subst (λ (o : GridState S L). Asks calls carries o node m None new) same
        (subst (λ (k : ℕ). Asks calls carries before k m None new) number
        (subst (λ (o : Option (Option (NodeState S L))). AsksAt calls carries before position o m None new) (sym there)
        (refl, ap (λ (nodes : List (Option (NodeState S L))). record { nodes = nodes; clock = before.clock }) stays)))

-- memory is refused
module _ {S L : Type 0} (calls : Calls S) (carries : Carries L) (gives_up : L → L → Type 0) where
  pub on_err : {X E P Q : Type 0} (r : Result X E) → (P → Q) → OnErr r P → OnErr r Q
  on_err (Ok x) f p = tt
  on_err (Err e) f p = f p

  -- on the answer's way back
  pub back_stops : (old new : NodeState S L) (came said : Message) (now : ℕ) (outcome : Outcome) (server : ServerState S) → Serves calls old.server client_node came now outcome server
      → outcome ≡ Ok (Some said) → new.server ≡ server → gives_up old.link new.link → IsLeftUnanswered calls gives_up old came now new
  back_stops old new came said now outcome server serves is same gave =
      inr (
        said,
        subst (λ (x : ServerState S). Serves calls old.server client_node came now (Ok (Some said)) x) (sym same)
            (subst (λ (o : Outcome). Serves calls old.server client_node came now o server) is serves),
        gave,
      )

  -- at the server
  pub server_stops : (old new : NodeState S L) (came : Message) (now : ℕ) (outcome : Outcome) → Serves calls old.server client_node came now outcome new.server
      → outcome ≡ Err OutOfMemory → new.link ≡ old.link → IsLeftUnanswered calls gives_up old came now new
  server_stops old new came now outcome serves is same = inl (subst (λ (o : Outcome). Serves calls old.server client_node came now o new.server) is serves, same)

  -- once the message is at the server
  later_stops : (old new : NodeState S L) (m came : Message) (now : ℕ) (link : L) → old.silent ≡ false → new.silent ≡ false → carries old.link ToServer m (Some came) link
      → IsLeftUnanswered calls gives_up (with_link old link) came now new → StopsShort calls carries gives_up old m now new
  later_stops old new m came now link spoke speaks carried left = record { spoke = spoke; speaks = speaks; stops = inr (link, came, carried, left) }

  pub all_later_stop : {X E : Type 0} (r : Result X E) (old new : NodeState S L) (m came : Message) (now : ℕ) (link : L) → old.silent ≡ false → carries old.link ToServer m (Some came) link
      → OnErr r (IsLeftUnanswered calls gives_up (with_link old link) came now new) → OnErr r (new.silent ≡ false) → OnErr r (StopsShort calls carries gives_up old m now new)
  all_later_stop (Ok x) old new m came now link spoke carried left speaks = tt
  all_later_stop (Err e) old new m came now link spoke carried left speaks = later_stops old new m came now link spoke speaks carried left

  -- a node that is there is asked
  pub asked_in_vain : (old before : GridState S L) (position node : ℕ) (item : Option (NodeState S L)) → before ≡ old → position ≡ node → position < length before.nodes → item ≡ get_or before.nodes position item
      → (m : Message) (n after : NodeState S L) → item ≡ Some n → StopsShort calls carries gives_up n m before.clock after
      → Stops calls carries gives_up old node m (record { nodes = slice_set before.nodes position (Some after); clock = before.clock })
  asked_in_vain old before position node item same number within value m n after is stops =
      let there : slice_get before.nodes position ≡ Some (Some n) = slice_get_read before.nodes (length before.nodes) position item refl within value ∙ ap Some is in
      let new : GridState S L = record { nodes = slice_set before.nodes position (Some after); clock = before.clock } in
      subst (λ (o : GridState S L). Stops calls carries gives_up o node m new) same
      (subst (λ (k : ℕ). Stops calls carries gives_up before k m new) number
      (subst (λ (o : Option (Option (NodeState S L))). StopsAt calls carries gives_up before position o m new) (sym there) (after, stops, refl)))

-- a tick is the one that `Ticks` says
server_ticked : {S : Type 0} (now : ℕ) (old new : ServerState S) → Ticks old now new → new ≡ ticked_server now old
server_ticked {S = S} now old new t =
    ap (λ (x : S). record { store = x; buckets = new.buckets; clock = new.clock; capacity = new.capacity; readonly = new.readonly }) t.after.store
    ∙ ap (λ (x : List Bucket). record { store = old.store; buckets = x; clock = new.clock; capacity = new.capacity; readonly = new.readonly }) t.after.buckets
    ∙ ap (λ (x : ℕ). record { store = old.store; buckets = (ticked_server now old).buckets; clock = x; capacity = new.capacity; readonly = new.readonly }) t.clock
    ∙ ap (λ (x : ℕ). record { store = old.store; buckets = (ticked_server now old).buckets; clock = max old.clock now; capacity = x; readonly = new.readonly }) t.terms.capacity
    ∙ ap (λ (x : Bool). record { store = old.store; buckets = (ticked_server now old).buckets; clock = max old.clock now; capacity = old.capacity; readonly = x }) t.terms.readonly

pub speaking_ticked : {S L : Type 0} (now : ℕ) (old : NodeState S L) (server : ServerState S) → old.silent ≡ false → Ticks old.server now server
    → record { server = server; link = old.link; silent = old.silent } ≡ ticked_node now old
speaking_ticked {S = S} {L = L} now old server speaks t =
    let after : NodeState S L = record { server = ticked_server now old.server; link = old.link; silent = old.silent } in
    ap (λ (x : ServerState S). record { server = x; link = old.link; silent = old.silent }) (server_ticked now old.server server t)
    ∙ subst (λ (b : Bool). after ≡ cond b old after) (sym speaks) refl

pub silent_ticked : {S L : Type 0} (now : ℕ) (old : NodeState S L) → old.silent ≡ true → old ≡ ticked_node now old
silent_ticked {S = S} {L = L} now old silent =
    let after : NodeState S L = record { server = ticked_server now old.server; link = old.link; silent = old.silent } in
    subst (λ (b : Bool). old ≡ cond b old after) (sym silent) refl

-- the grid at a second
pub all_pass : {S L : Type 0} (before old : GridState S L) (items nodes : List (Option (NodeState S L))) (now : ℕ) → before ≡ old
    → items ≡ before.nodes → nodes ≡ map (ticked now) items → record { nodes = nodes; clock = now } ≡ passed_to now old
all_pass {S = S} {L = L} before old items nodes now same first after =
    ap (λ (x : List (Option (NodeState S L))). record { nodes = x; clock = now }) (after ∙ ap (map (ticked now)) first)
    ∙ ap (passed_to now) same
