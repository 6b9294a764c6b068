-- What is heard of all servers elsewhere.
use Rattle.std.proofs.Common.{◌≡◌, ℕ, zero, suc, ◌<◌, ◌==◌, List, [], ◌∷◌, Bool, true, false, Option, Some, None, if◌then◌else◌, length, refl, sym, ap, subst, ◌∙◌, arith, ◌≤◌, get_or, map, option_map, Result, Ok, Err, OnErr}
use Rattle.std.proofs.lemmas.Option.{slice_get_read}
use Rattle.std.specs.Prelude.{slice_get, slice_set}
use Rattle.wire.specs.declared.message.Message.{Message}
use Rattle.connections.specs.Wires.{WireCalls}
use Rattle.local_grid.specs.Turns.{GridState, later, passed_to}
use Rattle.served_grid.specs.Heard.{Hears, HearsInVain, messages_of}
use Rattle.served_grid.specs.Remotes.{RemoteState, ticked_remote}
use Rattle.served_grid.specs.Served.{AllGive, Brings, GivesAt, HearsAll, IsFar, Passes, ServedState, heard_of, nothing, only, passed_all}
use Rattle.served_grid.specs.declared.remote.Came.{Came}
use Rattle.served_grid.proofs.Clients.{heard_gives, vain_gives}
use Rattle.served_grid.proofs.Giving.{all_both, all_itself, set_all}

-- a server elsewhere of a number
pub far_at : {W : Type 0} (o : Option (Option (RemoteState W))) → IsFar o → (r : RemoteState W) × (o ≡ Some (Some r))
far_at (Some (Some r)) far = (r, refl)
far_at (Some None) far = absurd far
far_at None far = absurd far

pub far_within : {W : Type 0} (remotes : List (Option (RemoteState W))) (i : ℕ) → IsFar (slice_get remotes i) → i < length remotes
far_within [] i far = absurd far
far_within (x ∷ xs) zero far = omega arith
far_within (x ∷ xs) (suc i) far = let less : i < length xs = far_within xs i far in omega (arith, less)

none_either_way : (b : Bool) (messages : List Message) → messages ≡ [] → (if b then messages else []) ≡ []
none_either_way true messages none = none
none_either_way false messages none = refl

pub on_err : {X E P Q : Type 0} (r : Result X E) → (P → Q) → OnErr r P → OnErr r Q
on_err (Ok x) f p = tt
on_err (Err e) f p = f p

module _ {W : Type 0} (wires : WireCalls W) where
  same_messages : (old new : List (Option (RemoteState W))) (one other : ℕ → List Message) → ((number : ℕ) → one number ≡ other number) → AllGive wires old one new → AllGive wires old other new
  same_messages old new one other same g number = subst (λ (ms : List Message). GivesAt wires (slice_get old number) ms (slice_get new number)) (same number) (g number)

module _ {S L W : Type 0} (wires : WireCalls W) where
  pub hears_itself : (g : ServedState S L W) → HearsAll wires g nothing g
  hears_itself g = record { here = refl; gave = all_itself wires g.remotes }

  pub hears_both : (a b c : ServedState S L W) (messages : ℕ → List Message) → HearsAll wires a nothing b → HearsAll wires b messages c → HearsAll wires a messages c
  hears_both a b c messages f g = record { here = g.here ∙ f.here; gave = all_both wires a.remotes b.remotes c.remotes messages f.gave g.gave }

  -- one that gave no message gave nothing
  pub hears_nothing : (old new : ServedState S L W) (node : ℕ) (came : Came) → messages_of came ≡ [] → HearsAll wires old (heard_of node came) new → HearsAll wires old nothing new
  hears_nothing old new node came none h = record {
    here = h.here;
    gave = same_messages wires old.remotes new.remotes (heard_of node came) nothing (λ number. none_either_way (number == node) (messages_of came) none) h.gave;
  }

  pub nothing_heard : (g : ServedState S L W) (node : ℕ) (came : Came) → messages_of came ≡ [] → HearsAll wires g (heard_of node came) g
  nothing_heard g node came none = record {
    here = refl;
    gave = same_messages wires g.remotes g.remotes nothing (heard_of node came) (λ number. sym (none_either_way (number == node) (messages_of came) none)) (all_itself wires g.remotes);
  }

  -- one server is heard
  pub hears_one : (g : ServedState S L W) (node : ℕ) (was is : RemoteState W) (came : Came) → slice_get g.remotes node ≡ Some (Some was) → Hears wires was was.connection came is
      → HearsAll wires g (heard_of node came) (record g { remotes = slice_set g.remotes node (Some is) })
  hears_one g node was is came at h = record { here = refl; gave = set_all wires g.remotes node was is (messages_of came) at (heard_gives wires was is came h) }

  pub hears_in_vain : (g : ServedState S L W) (node : ℕ) (was is : RemoteState W) → slice_get g.remotes node ≡ Some (Some was) → HearsInVain wires was was.connection is
      → HearsAll wires g nothing (record g { remotes = slice_set g.remotes node (Some is) })
  hears_in_vain g node was is at h =
      let one = set_all wires g.remotes node was is [] at (vain_gives wires was is h) in
      record {
        here = refl;
        gave = same_messages wires g.remotes (slice_set g.remotes node (Some is)) (λ (number : ℕ). if number == node then [] else []) nothing (λ number. none_either_way (number == node) [] refl) one;
      }

  -- the server of a number is heard
  pub heard_one : (old before : ServedState S L W) (position node : ℕ) (item : Option (RemoteState W)) (was is : RemoteState W) (came : Came) → before ≡ old → position ≡ node → position < length before.remotes
      → item ≡ get_or before.remotes position item → item ≡ Some was → Hears wires was was.connection came is
      → HearsAll wires old (heard_of node came) (record { here = before.here; remotes = slice_set before.remotes position (Some is) })
  heard_one old before position node item was is came same number within value at h =
      let there : slice_get before.remotes position ≡ Some (Some was) = slice_get_read before.remotes (length before.remotes) position item refl within value ∙ ap Some at in
      let new : ServedState S L W = record { here = before.here; remotes = slice_set before.remotes position (Some is) } in
      subst (λ (o : ServedState S L W). HearsAll wires o (heard_of node came) new) same
      (subst (λ (k : ℕ). HearsAll wires before (heard_of k came) new) number (hears_one before position was is came there h))

  pub vain_one : (old before : ServedState S L W) (position : ℕ) (item : Option (RemoteState W)) (was is : RemoteState W) → before ≡ old → position < length before.remotes
      → item ≡ get_or before.remotes position item → item ≡ Some was → HearsInVain wires was was.connection is
      → HearsAll wires old nothing (record { here = before.here; remotes = slice_set before.remotes position (Some is) })
  vain_one old before position item was is same within value at h =
      let there : slice_get before.remotes position ≡ Some (Some was) = slice_get_read before.remotes (length before.remotes) position item refl within value ∙ ap Some at in
      subst (λ (o : ServedState S L W). HearsAll wires o nothing (record { here = before.here; remotes = slice_set before.remotes position (Some is) })) same (hears_in_vain before position was is there h)

  -- what was heard before a call on the same state
  pub heard_before : (first old new : ServedState S L W) → new ≡ old → HearsAll wires first nothing old → HearsAll wires first nothing new
  heard_before first old new same h = subst (λ (s : ServedState S L W). HearsAll wires first nothing s) (sym same) h

  -- what came after nothing was heard
  pub brings_after : (first old new : ServedState S L W) (o : Option (ℕ × Message)) → HearsAll wires first nothing old → Brings wires old o new → Brings wires first o new
  brings_after first old new None f g = hears_both first old new nothing f g
  brings_after first old new (Some came) f g = hears_both first old new (only came.0 came.1) f g

  -- a second passes after nothing was heard
  pub passes : (old mid new : ServedState S L W) (second : ℕ) → HearsAll wires old nothing mid → new ≡ passed_all second mid → mid.here.clock ≤ second → second ≤ later mid.here.clock → Passes wires old second new
  passes old mid new second h after later_on soon = record {
    later_on = subst (λ (g : GridState S L). g.clock ≤ second) h.here later_on;
    soon = subst (λ (g : GridState S L). second ≤ later g.clock) h.here soon;
    heard = mid.remotes;
    gave = h.gave;
    after = after ∙ ap (λ (g : GridState S L). record { here = passed_to second g; remotes = map (option_map ticked_remote) mid.remotes }) h.here;
  }
