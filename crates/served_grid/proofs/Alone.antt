-- Servers of one process alone.
use Rattle.std.proofs.Common.{◌≡◌, ◌≢◌, ◌≤◌, ℕ, List, [], ◌∷◌, Option, Some, None, Bool, refl, sym, ap, subst, ◌∙◌, if◌then◌else◌, map}
use Rattle.std.proofs.lemmas.Bool.{eq-eqb}
use Rattle.std.specs.Prelude.{option_map, slice_get}
use Rattle.wire.specs.declared.message.Message.{Message}
use Rattle.share_store.specs.Calls.{Calls}
use Rattle.connections.specs.Wires.{WireCalls}
use Rattle.local_grid.specs.Nodes.{Carries}
use Rattle.local_grid.specs.Turns.{Asks, Stops, later, passed_to}
use Rattle.local_grid.specs.Local.{IsNext}
use Rattle.local_grid.specs.declared.outside.Happening.{Happening}
use Rattle.local_grid.specs.declared.outside.Happening.TheVariants.{Came, Second}
use Rattle.served_grid.specs.Remotes.{RemoteState, ticked_remote}
use Rattle.served_grid.specs.Served.{AllGive, GivesAt, HandsAt, Happens, IsNextAlone, ServedState, StopsAt, nothing, only, passed_all}
use Rattle.served_grid.proofs.Hearing.{hears_itself, passes}

emptied : {X : Type 0} (xs : List X) → slice_get xs 0 ≡ None → xs ≡ []
emptied [] e = refl
emptied (x ∷ xs) e = absurd (let no : Some x ≡ None = e in cc)

only_one : (node : ℕ) (m : Message) → only node m node ≡ m ∷ []
only_one node m = ap (λ (b : Bool). if b then m ∷ [] else []) (eq-eqb node node refl)

module _ {W : Type 0} (wires : WireCalls W) where
  -- where no server has a number nothing came of it
  gave_none : (messages : List Message) (o : Option (Option (RemoteState W))) → GivesAt wires None messages o → (messages ≡ []) × (o ≡ None)
  gave_none messages None g = (g, refl)
  gave_none messages (Some x) g = absurd g

  none_gave : (old new : List (Option (RemoteState W))) (messages : ℕ → List Message) → old ≡ [] → AllGive wires old messages new → (number : ℕ) → (messages number ≡ []) × (slice_get new number ≡ None)
  none_gave old new messages none g number = gave_none (messages number) (slice_get new number) (subst (λ (rs : List (Option (RemoteState W))). GivesAt wires (slice_get rs number) (messages number) (slice_get new number)) none (g number))

module _ {S L W : Type 0} (calls : Calls S) (carries : Carries L) (gives_up : L → L → Type 0) (wires : WireCalls W) where
  pub hands_alone : (old new : ServedState S L W) (node : ℕ) (m : Message) (answer : Option Message) → old.remotes ≡ [] → HandsAt calls carries old node (slice_get old.remotes node) m answer new
      → Asks calls carries old.here node m answer new.here × (new.remotes ≡ [])
  hands_alone old new node m answer none h =
      let at : HandsAt calls carries old node None m answer new = subst (λ (rs : List (Option (RemoteState W))). HandsAt calls carries old node (slice_get rs node) m answer new) none h in
      (at.0, at.1 ∙ none)

  pub stops_alone : (old new : ServedState S L W) (node : ℕ) (m : Message) → old.remotes ≡ [] → StopsAt calls carries gives_up old node (slice_get old.remotes node) m new
      → Stops calls carries gives_up old.here node m new.here × (new.remotes ≡ [])
  stops_alone old new node m none h =
      let at : StopsAt calls carries gives_up old node None m new = subst (λ (rs : List (Option (RemoteState W))). StopsAt calls carries gives_up old node (slice_get rs node) m new) none h in
      (at.0, at.1 ∙ none)

module _ {S L W : Type 0} (wires : WireCalls W) where
  pub happens_alone : (old new : ServedState S L W) (happening : Happening) → old.remotes ≡ [] → Happens wires old happening new × IsNextAlone old happening
      → IsNext old.here happening new.here × (new.remotes ≡ [])
  happens_alone old new (Came node m) none h =
      let gave = none_gave wires old.remotes new.remotes (only node m) none h.0.gave node in
      absurd (let no : m ∷ [] ≡ [] = sym (only_one node m) ∙ gave.0 in cc)
  happens_alone old new (Second second) none h =
      let heard : h.0.heard ≡ [] = emptied h.0.heard (none_gave wires old.remotes h.0.heard nothing none h.0.gave 0).1 in
      let next : second ≡ later old.here.clock = h.1 none in (
        (next, ap (λ (g : ServedState S L W). g.here) h.0.after ∙ ap (λ (k : ℕ). passed_to k old.here) next),
        ap (λ (g : ServedState S L W). g.remotes) h.0.after ∙ ap (map (option_map ticked_remote)) heard,
      )

  -- the next tick, where no server is served elsewhere
  pub ticks_alone : (old new : ServedState S L W) (second : ℕ) → new ≡ passed_all second old → second ≡ later old.here.clock → old.here.clock ≤ second → second ≤ later old.here.clock
      → Happens wires old (Second second) new × IsNextAlone old (Second second)
  ticks_alone old new second after next later_on soon = (passes wires old old new second (hears_itself wires old) after later_on soon, λ none. next)

  -- what happens where there are servers elsewhere
  pub happens_on : (old new : ServedState S L W) (happening : Happening) → old.remotes ≢ [] → Happens wires old happening new → Happens wires old happening new × IsNextAlone old happening
  happens_on old new (Came node m) some happens = (happens, tt)
  happens_on old new (Second second) some happens = (happens, λ none. absurd (some none))
