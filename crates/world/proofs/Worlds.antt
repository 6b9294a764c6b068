-- Whole worlds: what is kept of each, a new one, one step and runs.
use Rattle.std.proofs.Common.{◌≡◌, ℕ, zero, suc, ◌+◌, ◌≤◌, List, [], ◌∷◌, ◌++◌, length, replicate, take, Some, Ok, Err, refl, sym, subst, ap, ◌∙◌, arith}
use Rattle.std.specs.Prelude.{slice_get}
use Rattle.world.specs.declared.event.Event.{Event}
use Rattle.world_operations.specs.declared.message.Sent.{Sent}
use Rattle.world_operations.specs.declared.operation.Operation.{Operation}
use Rattle.world.specs.declared.event.WorldError.{WorldError}
use Rattle.world.specs.State.{WorldState, WorldValue, new_server, new_world}
use Rattle.world.specs.Binding.{IsBound}
use Rattle.world.specs.Consistent.{IsKept, Preserves}
use Rattle.world.specs.Headline.{IsTrusted}
use Rattle.world.specs.Later.{IsLater}
use Rattle.world.specs.Taking.{AreTaken, IsRun, StepGives}
use Rattle.world.proofs.Later.{later_still, same_world}
use Rattle.world.proofs.Preserving.{new_consistent}
use Rattle.world.specs.Repairs.{AreTrustedRepairs}
use Rattle.world.proofs.Bound.{bound}
use Rattle.world.proofs.Trusted.{trusted}
use Rattle.world.proofs.Repaired.{repairs_trusted}

pub kept_later : (old new : WorldState) → Preserves old new → IsKept old → IsKept new × IsLater old new
kept_later old new p k =
    let g = p k.consistent in
    (record { consistent = g.0; few = omega (arith, k.few, g.1.honest, g.1.liars) }, g.1)

pub kept_trusted : (w : WorldState) → IsKept w → IsTrusted w
kept_trusted w k = trusted w k.consistent

pub kept_repairs : (w : WorldState) → IsKept w → AreTrustedRepairs w
kept_repairs w k = repairs_trusted w k.consistent

pub kept_bound : (w : WorldState) → IsKept w → IsBound w
kept_bound w k = bound w k.consistent

-- ---- a new world

pub replicate_push : {A : Type 0} (n : ℕ) (x : A) → replicate n x ++ x ∷ [] ≡ replicate (n + 1) x
replicate_push {A} n x = (let e : suc n ≡ n + 1 = omega arith in on n ∙ ap (λ (m : ℕ). replicate m x) e) where
  on : (m : ℕ) → replicate m x ++ x ∷ [] ≡ replicate (suc m) x
  on zero = refl
  on (suc m) = ap (λ (l : List _). x ∷ l) (on m)

length_replicate : {A : Type 0} (n : ℕ) (x : A) → length (replicate n x) ≡ n
length_replicate zero x = refl
length_replicate (suc n) x = ap suc (length_replicate n x)

pub new_kept : (honest liars : ℕ) → honest + liars ≤ 256 → IsKept (new_world honest liars)
new_kept honest liars few = record {
  consistent = new_consistent honest liars;
  few = omega (arith, few, length_replicate honest new_server, length_replicate {A = List Sent} liars []);
}

-- ---- runs

taken_push : (xs : List Event) (a b c : WorldValue) (e : Event) → AreTaken a xs b → StepGives b e (Ok tt) c → AreTaken a (xs ++ e ∷ []) c
taken_push [] a b c e s t = (c, subst (λ (w : WorldValue). StepGives w e (Ok tt) c) s t, refl)
taken_push (x ∷ xs) a b c e s t = (s.0, s.1, taken_push xs s.0 b c e s.2 t)

take_next : {A : Type 0} (xs : List A) (i : ℕ) (x : A) → slice_get xs i ≡ Some x → take (suc i) xs ≡ take i xs ++ x ∷ []
take_next [] i x e = absurd cc
take_next (z ∷ zs) zero x e = (let same : z ≡ x = cc in ap (λ y. y ∷ []) same)
take_next (z ∷ zs) (suc i) x e = ap (λ (l : List _). z ∷ l) (take_next zs i x e)

pub record IsRunning (old now : WorldValue) (events : List Event) (taken : ℕ) : Type 0 where
  pub steps : AreTaken old (take taken events) now
  pub later : IsLater old.state now.state
  pub is_trusted : IsTrusted now.state
  pub repairs : AreTrustedRepairs now.state
  pub is_bound : IsBound now.state

pub running_begins : (w : WorldValue) (events : List Event) → IsTrusted w.state → AreTrustedRepairs w.state → IsBound w.state → IsRunning w w events 0
running_begins w events t r b = record { steps = refl; later = same_world w.state; is_trusted = t; repairs = r; is_bound = b }

pub running_on : (old now next : WorldValue) (events : List Event) (taken : ℕ) (event : Event) → IsRunning old now events taken → slice_get events taken ≡ Some event
    → StepGives now event (Ok tt) next → IsLater now.state next.state → IsTrusted next.state → AreTrustedRepairs next.state
    → IsBound next.state → IsRunning old next events (taken + 1)
running_on old now next events taken event r at gives later is_trusted repairs is_bound =
    let e : taken + 1 ≡ suc taken = omega arith in record {
      steps = subst (λ (l : List Event). AreTaken old l next) (sym (ap (λ (n : ℕ). take n events) e ∙ take_next events taken event at))
          (taken_push (take taken events) old now next event r.steps gives);
      later = later_still old.state now.state next.state r.later later;
      is_trusted = is_trusted;
      repairs = repairs;
      is_bound = is_bound;
    }

-- the run stops at an event that is not taken
pub running_stops : (old now next : WorldValue) (events : List Event) (taken : ℕ) (event : Event) (e : WorldError) → IsRunning old now events taken → slice_get events taken ≡ Some event
    → StepGives now event (Err e) next → IsRun old events taken (Err e) next
running_stops old now next events taken event e r at gives = record { mid = now; steps = r.steps; ends = (event, at, gives) }

pub running_ends : (old now : WorldValue) (events : List Event) (taken all : ℕ) → IsRunning old now events taken → taken ≡ all → all ≡ length events → IsRun old events all (Ok tt) now
running_ends old now events taken all r same whole =
    record { mid = now; steps = subst (λ (n : ℕ). AreTaken old (take n events) now) same r.steps; ends = (whole, refl) }

new_is : (honest liars : ℕ) (servers : List _) (heard : List (List Sent)) (operations : List Operation) (sent : List Sent) → servers ≡ replicate honest new_server → heard ≡ replicate liars []
    → operations ≡ [] → sent ≡ [] → new_world honest liars ≡ record { servers = servers; heard = heard; operations = operations; sent = sent; clock = 0 }
new_is honest liars servers heard operations sent a b c d =
    ap (λ (s : List _). record (new_world honest liars) { servers = s }) (sym a)
    ∙ ap (λ (h : List (List Sent)). record (new_world honest liars) { servers = servers; heard = h }) (sym b)
    ∙ ap (λ (o : List Operation). record (new_world honest liars) { servers = servers; heard = heard; operations = o }) (sym c)
    ∙ ap (λ (s : List Sent). record { servers = servers; heard = heard; operations = operations; sent = s; clock = 0 }) (sym d)

pub new_is_kept : (honest liars : ℕ) (servers : List _) (heard : List (List Sent)) (operations : List Operation) (sent : List Sent) → honest + liars ≤ 256 → servers ≡ replicate honest new_server
    → heard ≡ replicate liars [] → operations ≡ [] → sent ≡ [] → IsKept (record { servers = servers; heard = heard; operations = operations; sent = sent; clock = 0 })
new_is_kept honest liars servers heard operations sent few a b c d = subst IsKept (new_is honest liars servers heard operations sent a b c d) (new_kept honest liars few)
