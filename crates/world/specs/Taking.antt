-- What becomes of an event: it is taken, it is refused and nothing changes, or memory ends.
use Rattle.std.specs.Prelude.{◌≡◌, ℕ, List, [], ◌∷◌, length, slice_get, take, true, false, Some}
use Rattle.std.specs.Prelude.{Result, Ok, Err, ⊤}
use Rattle.world_operations.specs.declared.task.StartError.{StartError}
use Rattle.world_operations.specs.declared.task.StartError.TheVariants.{OutOfMemory, Refused}
use Rattle.world.specs.declared.event.Event.{Event}
use Rattle.world.specs.declared.event.WorldError.{WorldError}
use Rattle.world.specs.declared.event.WorldError.TheVariants as errors
use Rattle.world.specs.Admitted.{IsAdmitted}
use Rattle.world.specs.State.{WorldState, WorldValue}
use Rattle.world.specs.Step.{Step}

-- One event. What is refused changes nothing; a world that was stopped stays as it is; and without
-- memory the world is stopped.
abbrev pub StepGives : WorldValue → Event → Result Unit WorldError → WorldValue → Type 0
StepGives old event (Ok u) new =
    (old.stopped ≡ false) × (new.stopped ≡ false) × IsAdmitted old.state event
    × Step old.state event new.state
StepGives old event (Err errors.BadEvent) new =
    (old.stopped ≡ false) × (IsAdmitted old.state event → ⊥) × (new ≡ old)
StepGives old event (Err errors.Stopped) new = (old.stopped ≡ true) × (new ≡ old)
StepGives old event (Err errors.OutOfMemory) new =
    (old.stopped ≡ false) × (new.stopped ≡ true)

-- events in order, each taken
abbrev pub AreTaken : WorldValue → List Event → WorldValue → Type 0
AreTaken old [] new = new ≡ old
AreTaken old (event ∷ events) new =
    (mid : WorldValue) × StepGives old event (Ok tt) mid × AreTaken mid events new

-- how a run ends, of whose events so many were taken: with all of them, or with the first that was
-- not taken
abbrev pub RunEnds : WorldValue → List Event → ℕ → Result Unit WorldError → WorldValue → Type 0
RunEnds mid events taken (Ok u) new = (taken ≡ length events) × (new ≡ mid)
RunEnds mid events taken (Err e) new =
    (event : Event) × (slice_get events taken ≡ Some event) × StepGives mid event (Err e) new

-- events in order, up to the first that is not taken
pub record IsRun (old : WorldValue) (events : List Event) (taken : ℕ)
    (outcome : Result Unit WorldError) (new : WorldValue) : Type 0 where
  pub mid : WorldValue
  pub steps : AreTaken old (take taken events) mid
  pub ends : RunEnds mid events taken outcome new

-- ---- words of private clauses

abbrev pub IsTaken : WorldState → Event → Result Unit StartError → WorldState → Type 0
IsTaken old event (Ok u) new = IsAdmitted old event × Step old event new
IsTaken old event (Err Refused) new = (IsAdmitted old event → ⊥) × (new ≡ old)
IsTaken old event (Err OutOfMemory) new = ⊤
