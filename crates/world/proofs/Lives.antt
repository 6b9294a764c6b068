-- Operations that are forgotten, or fail: a world where they are stays consistent.
use Rattle.std.proofs.Common.{◌≡◌, ℕ, List, Bool, true, false, length, map, Option, Some, None, refl, sym, subst, ap, ◌∙◌, inl, inr}
use Rattle.std.specs.Prelude.{◌==◌, ◌&&◌, slice_get, slice_set, option_map, if◌then◌else◌}
use Rattle.std.proofs.lemmas.Option.{slice_get-map}
use Rattle.wire.specs.declared.message.Message.{Message}
use Rattle.share_store.specs.Memory.{MemoryState}
use Rattle.server_core.specs.ServerState.{ServerState}
use Rattle.world_operations.specs.declared.message.Sent.{Sent}
use Rattle.world_operations.specs.declared.operation.Life.{Life}
use Rattle.world_operations.specs.declared.operation.Life.TheVariants.{Forgotten}
use Rattle.world_operations.specs.declared.operation.Operation.{Operation}
use Rattle.world_operations.proofs.Positions.{get_set, get_set_back, same_some}
use Rattle.world.specs.Step.{forgotten_by, is_running, with_life}
use Rattle.world.specs.Consistent.{AreConsistent, IsFine, IsRequestOf}
use Rattle.world.specs.Consistent.{asked, gone}
use Rattle.world.proofs.Changes.{operations_change}

-- the same operations, but for what became of them
pub record HaveOtherLives (old new : List Operation) : Type 0 where
  pub back : (i : ℕ) (op : Operation) → slice_get new i ≡ Some op → (was : Operation) × (fate : Life) × (slice_get old i ≡ Some was) × (op ≡ with_life fate was)
  pub on : (i : ℕ) (op : Operation) → slice_get old i ≡ Some op → (fate : Life) × (slice_get new i ≡ Some (with_life fate op))

fine_with : (honest : ℕ) (sent : List Sent) (i : ℕ) (op : Operation) (fate : Life) → IsFine honest sent i op → IsFine honest sent i (with_life fate op)
fine_with honest sent i op fate f = record { node = f.node; started = f.started; session = f.session; before = f.before; answers = f.answers; right = f.right; asked = f.asked; given = f.given }

request_with : (op : Operation) (fate : Life) (x : Sent) (m : Message) → IsRequestOf op x m → IsRequestOf (with_life fate op) x m
request_with op fate x m (gone number is) = gone number is
request_with op fate x m (asked from r) = asked from r

pub lives_changed : (servers : List (ServerState MemoryState)) (old new : List Operation) (sent : List Sent) → HaveOtherLives old new
    → AreConsistent servers old sent → AreConsistent servers new sent
lives_changed servers old new sent h c =
    operations_change servers old new sent (λ i op e. let f = h.on i op e in (with_life f.0 op, f.1, request_with op f.0, refl))
    (λ i op e. let was = h.back i op e in subst (IsFine (length servers) sent i) (sym was.3) (fine_with (length servers) sent i was.0 was.1 (c.fine i was.0 was.2))) c

own_life : (op : Operation) → op ≡ with_life op.life op
own_life op = refl

pub one_life : (operations : List Operation) (number : ℕ) (op : Operation) (fate : Life) → slice_get operations number ≡ Some op
    → HaveOtherLives operations (slice_set operations number (with_life fate op))
one_life operations number op fate at = record {
  back = λ i new e. elim (get_set operations number i new (with_life fate op) e) [
    | inl h ↦ (op, fate, ap (slice_get operations) h.0 ∙ at, h.1)
    | inr h ↦ (new, new.life, h, own_life new)
  ];
  on = λ i old e. elim (get_set_back operations number i old (with_life fate op) e) [
    | inl h ↦ (let same : op ≡ old = same_some op old (sym at ∙ ap (slice_get operations) (sym h.0) ∙ e) in
        (fate, h.1 ∙ ap (λ (o : Operation). Some (with_life fate o)) same))
    | inr h ↦ (old.life, h ∙ ap Some (own_life old))
  ];
}

forgot : (node : ℕ) (op : Operation) → (fate : Life) × (forgotten_by node op ≡ with_life fate op)
forgot node op = choose ((op.node == node) && is_running op) where
  choose : (b : Bool) → (fate : Life) × ((if b then with_life Forgotten op else op) ≡ with_life fate op)
  choose true = (Forgotten, refl)
  choose false = (op.life, own_life op)

some_map : {A B : Type 0} (f : A → B) (o : Option A) (y : B) → option_map f o ≡ Some y → (x : A) × (o ≡ Some x) × (y ≡ f x)
some_map f None y e = absurd cc
some_map f (Some x) y e = (x, refl, same_some y (f x) (sym e))

pub all_forgotten : (node : ℕ) (operations : List Operation) → HaveOtherLives operations (map (forgotten_by node) operations)
all_forgotten node operations = record {
  back = λ i new e.
      let was = some_map (forgotten_by node) (slice_get operations i) new (sym (slice_get-map (forgotten_by node) operations i) ∙ e) in
      let fate = forgot node was.0 in
      (was.0, fate.0, was.1, was.2 ∙ fate.1);
  on = λ i old e.
      let fate = forgot node old in
      (fate.0, slice_get-map (forgotten_by node) operations i ∙ ap (option_map (forgotten_by node)) e ∙ ap Some fate.1);
}
