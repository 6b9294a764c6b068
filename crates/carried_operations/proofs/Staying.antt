-- Turns of the loop over servers whose stores keep: closed shares stay as they are, and sound servers stay sound.
use Rattle.std.proofs.Common.{◌≡◌, ℕ, zero, suc, List, [], ◌∷◌, map, Option, Some, None, Ok, Err, Bool, true, false, cond, refl, sym, ap, subst, inl, inr}
use Rattle.std.specs.Prelude.{slice_get, slice_set}
use Rattle.wire.specs.declared.message.Message.{Message}
use Rattle.request_record.specs.Operations.{OperationCalls}
use Rattle.share_store.specs.Calls.{AreKept, Calls}
use Rattle.share_store.specs.Shelf.{Shelf}
use Rattle.server_core.specs.declared.error.ServerFault.TheVariants.{OutOfMemory}
use Rattle.server_core.specs.ServerState.{Outcome, ServerState, Serves, Ticks}
use Rattle.server_core.specs.Sound.{over}
use Rattle.server_core.proofs.Keeps.{messages_keep, ticks_keep}
use Rattle.server_core.proofs.Over.{serves_over}
use Rattle.server_core.proofs.Stays.{messages_leave_others, ticks_leave_closed}
use Rattle.local_grid.specs.declared.error.LoopError.{LoopError}
use Rattle.local_grid.specs.declared.error.LoopError.TheVariants as errors
use Rattle.local_grid.specs.Nodes.{Carries, Exchanges, IsLeftUnanswered, IsMet, NodeState, StopsShort, client_node, ticked, ticked_server, with_link}
use Rattle.local_grid.specs.Turns.{Asks, AsksAt, Course, Finishes, GoesOn, GoesPast, GridState, IsCutShort, LoopState, RunsOut, StopsAfter, StopsAt, Turns, later, passed}
use Rattle.carried_operations.specs.Kept.{AllStay, AreSound, Stays, StaysThere}

-- ---- what stays, over and over

module _ {S L : Type 0} (shelf : S → Shelf) where
  same_stays : (was is : NodeState S L) → is.server ≡ was.server → Stays shelf was is
  same_stays was is same =
      subst (λ (m : ServerState S). Stays shelf was (record { server = m; link = is.link; silent = is.silent })) (sym same) (record { closed = λ id c found. found; sound = λ s. s })

  both_stay : (a b c : NodeState S L) → Stays shelf a b → Stays shelf b c → Stays shelf a c
  both_stay a b c f g = record { closed = λ id s found. g.closed id s (f.closed id s found); sound = λ s. g.sound (f.sound s) }

  itself_there : (at : Option (Option (NodeState S L))) → StaysThere shelf at at
  itself_there None = tt
  itself_there (Some None) = tt
  itself_there (Some (Some n)) = same_stays n n refl

  both_there : (a b c : Option (Option (NodeState S L))) → StaysThere shelf a b → StaysThere shelf b c → StaysThere shelf a c
  both_there None None None f g = tt
  both_there (Some None) (Some None) (Some None) f g = tt
  both_there (Some (Some a)) (Some (Some b)) (Some (Some c)) f g = both_stay a b c f g
  both_there (Some (Some a)) (Some (Some b)) (Some None) f g = absurd g
  both_there (Some (Some a)) (Some (Some b)) None f g = absurd g
  both_there (Some (Some a)) (Some None) c f g = absurd f
  both_there (Some (Some a)) None c f g = absurd f
  both_there (Some None) (Some None) (Some (Some c)) f g = absurd g
  both_there (Some None) (Some None) None f g = absurd g
  both_there (Some None) (Some (Some b)) c f g = absurd f
  both_there (Some None) None c f g = absurd f
  both_there None None (Some c) f g = absurd g
  both_there None (Some b) c f g = absurd f

  pub itself_all : (grid : GridState S L) → AllStay shelf grid grid
  itself_all grid number = itself_there (slice_get grid.nodes number)

  pub same_all : (old new : GridState S L) → new ≡ old → AllStay shelf old new
  same_all old new same = subst (AllStay shelf old) (sym same) (itself_all old)

  pub both_all : (a b c : GridState S L) → AllStay shelf a b → AllStay shelf b c → AllStay shelf a c
  both_all a b c f g number = both_there (slice_get a.nodes number) (slice_get b.nodes number) (slice_get c.nodes number) (f number) (g number)

  -- one server is another
  set_there : (nodes : List (Option (NodeState S L))) (i j : ℕ) (was is : NodeState S L) → slice_get nodes i ≡ Some (Some was) → Stays shelf was is
      → StaysThere shelf (slice_get nodes j) (slice_get (slice_set nodes i (Some is)) j)
  set_there [] i j was is e s = absurd cc
  set_there (x ∷ xs) zero zero was is e s = subst (λ (o : Option (Option (NodeState S L))). StaysThere shelf o (Some (Some is))) (sym e) s
  set_there (x ∷ xs) zero (suc j) was is e s = itself_there (slice_get xs j)
  set_there (x ∷ xs) (suc i) zero was is e s = itself_there (Some x)
  set_there (x ∷ xs) (suc i) (suc j) was is e s = set_there xs i j was is e s

  pub set_all : (old new : GridState S L) (i : ℕ) (was is : NodeState S L) → slice_get old.nodes i ≡ Some (Some was) → Stays shelf was is
      → new ≡ record { nodes = slice_set old.nodes i (Some is); clock = old.clock } → AllStay shelf old new
  set_all old new i was is at s same =
      subst (AllStay shelf old) (sym same) (λ number. set_there old.nodes i number was is at s)

  -- what is there was there, and the other way round
  there_back : (was : Option (Option (NodeState S L))) (is : NodeState S L) → StaysThere shelf was (Some (Some is)) → (n : NodeState S L) × (was ≡ Some (Some n)) × Stays shelf n is
  there_back (Some (Some n)) is s = (n, refl, s)
  there_back (Some None) is s = absurd s
  there_back None is s = absurd s

  pub there_on : (was : NodeState S L) (is : Option (Option (NodeState S L))) → StaysThere shelf (Some (Some was)) is → (n : NodeState S L) × (is ≡ Some (Some n)) × Stays shelf was n
  there_on was (Some (Some n)) s = (n, refl, s)
  there_on was (Some None) s = absurd s
  there_on was None s = absurd s

  -- sound servers stay sound
  pub sound_after : (old new : GridState S L) → AllStay shelf old new → AreSound shelf old → AreSound shelf new
  sound_after old new all sound number n at =
      let back = there_back (slice_get old.nodes number) n (subst (StaysThere shelf (slice_get old.nodes number)) at (all number)) in
      back.2.sound (sound number back.0 back.1)

-- ---- what a turn does

server_ticks : {S : Type 0} (shelf : S → Shelf) (now : ℕ) (old : ServerState S) → Ticks (over shelf old) now (over shelf (ticked_server now old))
server_ticks shelf now old = record { after = record { store = refl; buckets = refl }; clock = refl; terms = record { capacity = refl; readonly = refl } }

module _ {S L : Type 0} (calls : Calls S) (shelf : S → Shelf) (k : AreKept calls shelf) where
  pub served_stay : (was is : NodeState S L) (m : Message) (now : ℕ) (outcome : Outcome) → Serves calls was.server client_node m now outcome is.server → Stays shelf was is
  served_stay was is m now outcome serves =
      let s = serves_over calls shelf k was.server is.server client_node now m outcome serves in
      record {
        closed = (messages_leave_others (over shelf was.server) (over shelf is.server) client_node now m outcome s).stays;
        sound = λ sound. (messages_keep (over shelf was.server) (over shelf is.server) client_node now m outcome sound s).sound;
      }

  ticked_stays : (now : ℕ) (n : NodeState S L) (b : Bool) → n.silent ≡ b
      → Stays shelf n (cond b n (record { server = ticked_server now n.server; link = n.link; silent = n.silent }))
  ticked_stays now n true e = same_stays shelf n n refl
  ticked_stays now n false e =
      let t = server_ticks shelf now n.server in
      record {
        closed = ticks_leave_closed (over shelf n.server) (over shelf (ticked_server now n.server)) now t;
        sound = λ sound. (ticks_keep (over shelf n.server) (over shelf (ticked_server now n.server)) now sound t).sound;
      }

  passed_there : (now : ℕ) (nodes : List (Option (NodeState S L))) (number : ℕ) → StaysThere shelf (slice_get nodes number) (slice_get (map (ticked now) nodes) number)
  passed_there now [] number = tt
  passed_there now (Some n ∷ nodes) zero = ticked_stays now n n.silent refl
  passed_there now (None ∷ nodes) zero = tt
  passed_there now (x ∷ nodes) (suc number) = passed_there now nodes number

  pub passed_all : (old new : GridState S L) → new ≡ passed old → AllStay shelf old new
  passed_all old new same = subst (AllStay shelf old) (sym same) (λ number. passed_there (later old.clock) old.nodes number)

  module _ (carries : Carries L) (gives_up : L → L → Type 0) where
    met_stays : (old new : NodeState S L) (link : L) (came : Option Message) (now : ℕ) (answer : Option Message) → IsMet calls carries old link came now answer new → Stays shelf old new
    met_stays old new link None now answer met = same_stays shelf old new (ap (λ (n : NodeState S L). n.server) met.1)
    met_stays old new link (Some came) now answer met = served_stay old new came now met.outcome met.serves

    exchanged_stays : (old new : NodeState S L) (m : Message) (now : ℕ) (answer : Option Message) (b : Bool) → old.silent ≡ b → Exchanges calls carries old m now answer new → Stays shelf old new
    exchanged_stays old new m now answer true e x = same_stays shelf old new (ap (λ (n : NodeState S L). n.server) (x.silent e).1)
    exchanged_stays old new m now answer false e x = (let h = x.heard e in met_stays old new h.0 h.1 now answer h.3)

    asks_at : (old new : GridState S L) (node : ℕ) (at : Option (Option (NodeState S L))) (m : Message) (answer : Option Message) → slice_get old.nodes node ≡ at
        → AsksAt calls carries old node at m answer new → AllStay shelf old new
    asks_at old new node None m answer e a = same_all shelf old new a.1
    asks_at old new node (Some None) m answer e a = same_all shelf old new a.1
    asks_at old new node (Some (Some n)) m answer e a = set_all shelf old new node n a.0 e (exchanged_stays n a.0 m old.clock answer n.silent refl a.1) a.2

    pub asks_all : (old new : GridState S L) (node : ℕ) (m : Message) (answer : Option Message) → Asks calls carries old node m answer new → AllStay shelf old new
    asks_all old new node m answer a = asks_at old new node (slice_get old.nodes node) m answer refl a

    unanswered_stays : (old new : NodeState S L) (came : Message) (now : ℕ) → IsLeftUnanswered calls gives_up old came now new → Stays shelf old new
    unanswered_stays old new came now u = elim u [
      | inl s ↦ served_stay old new came now (Err OutOfMemory) s.0
      | inr s ↦ served_stay old new came now (Ok (Some s.0)) s.1
    ]

    short_stays : (old new : NodeState S L) (m : Message) (now : ℕ) → StopsShort calls carries gives_up old m now new → Stays shelf old new
    short_stays old new m now s = elim s.stops [
      | inl same ↦ same_stays shelf old new same.0
      | inr u ↦
          let s = unanswered_stays (with_link old u.0) new u.1 now u.3 in
          record { closed = s.closed; sound = s.sound }
    ]

    stops_at : (old new : GridState S L) (node : ℕ) (at : Option (Option (NodeState S L))) (m : Message) → slice_get old.nodes node ≡ at → StopsAt calls carries gives_up old node at m new → AllStay shelf old new
    stops_at old new node None m e s = absurd s
    stops_at old new node (Some None) m e s = absurd s
    stops_at old new node (Some (Some n)) m e s = set_all shelf old new node n s.0 e (short_stays n s.0 m old.clock s.1) s.2

    module _ {O : Type 0} (operation : OperationCalls O) where
      goes_on_all : (taken : O) (old : GridState S L) (message : Option (ℕ × Message)) (new : LoopState O S L) → GoesOn operation calls carries taken old message new → AllStay shelf old new.grid
      goes_on_all taken old None new g = passed_all old new.grid g.0
      goes_on_all taken old (Some m) new g = asks_all old new.grid m.0 m.1 g.0 g.1

      pub turn_all : (old new : LoopState O S L) → Turns operation calls carries old new → AllStay shelf old.grid new.grid
      turn_all old new t = goes_on_all t.taken old.grid t.message new t.goes_on

      pub course_all : (first last : LoopState O S L) (states : List (LoopState O S L)) → Course (Turns operation calls carries) first states last → AllStay shelf first.grid last.grid
      course_all first last [] c = same_all shelf first.grid last.grid (ap (λ (s : LoopState O S L). s.grid) c)
      course_all first last (next ∷ states) c = both_all shelf first.grid next.grid last.grid (turn_all first next c.0) (course_all next last states c.1)

      stops_after_all : (taken : O) (old : GridState S L) (message : Option (ℕ × Message)) (new : LoopState O S L) → StopsAfter operation calls carries gives_up taken old message new → AllStay shelf old new.grid
      stops_after_all taken old None new s = passed_all old new.grid s.0
      stops_after_all taken old (Some m) new s = elim s [
        | inl c ↦ stops_at old new.grid m.0 (slice_get old.nodes m.0) m.1 refl c.1
        | inr c ↦ asks_all old new.grid m.0 m.1 (Some c.0) c.1
      ]

      short_all : (old new : LoopState O S L) → IsCutShort operation calls carries gives_up old new → AllStay shelf old.grid new.grid
      short_all old new c = elim c [
        | inl s ↦ same_all shelf old.grid new.grid s.1
        | inr s ↦ stops_after_all s.1 old.grid s.0 new s.3
      ]

      -- however a run ended
      pub ended_all : (most : ℕ) (first last : LoopState O S L) → Finishes operation calls carries most first last → AllStay shelf first.grid last.grid
      ended_all most first last f = course_all first last f.2.0 f.2.2

      pub failed_all : (e : LoopError) (most : ℕ) (first last : LoopState O S L) → (e ≡ errors.TurnLimit → GoesPast operation calls carries most first last)
          → (e ≡ errors.OutOfMemory → RunsOut operation calls carries gives_up most first last) → AllStay shelf first.grid last.grid
      failed_all errors.TurnLimit most first last past out = (let p = past refl in course_all first last p.0.0 p.0.2)
      failed_all errors.OutOfMemory most first last past out =
          let o = out refl in both_all shelf first.grid o.2.grid last.grid (course_all first o.2 o.3.0 o.3.2) (short_all o.2 last o.5)
