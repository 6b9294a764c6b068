-- Which events can be taken: those that name what is there, and start what can be. All others are
-- refused.
use Rattle.std.specs.Prelude.{◌≡◌, ℕ, ◌<◌, Some, length, slice_get, ⊤}
use Rattle.file_upload.specs.Shares.{MayWant}
use Rattle.checker.specs.State.{CheckState}
use Rattle.world_operations.specs.declared.operation.Operation.{Operation}
use Rattle.world_operations.specs.Jobs.{MayStart}
use Rattle.world.specs.declared.event.Event.{Event}
use Rattle.world.specs.declared.event.Event.TheVariants.{Start, Repair, Deliver, Forge, Turn}
use Rattle.world.specs.declared.event.Event.TheVariants.{Pass, Tick, Restart, FailStore, Refuse}
use Rattle.world.specs.State.{IsHonest, IsLiar, IsNode, WorldState}
use Rattle.world.specs.Step.{IsDoneCheck, IsRunning}

-- what a check of this node found may be repaired, for so many servers at least
abbrev pub MayRepair : WorldState → ℕ → ℕ → ℕ → Type 0
MayRepair w node number happy =
    (check : CheckState) × IsDoneCheck w node number check × MayWant check.cap happy

abbrev pub IsAdmitted : WorldState → Event → Type 0
IsAdmitted w (Start node job) = IsHonest w node × MayStart job
IsAdmitted w (Repair node number happy) = IsHonest w node × MayRepair w node number happy
IsAdmitted w (Deliver i) = i < length w.sent
IsAdmitted w (Forge liar to bytes) = IsLiar w liar × IsNode w to
IsAdmitted w (Turn liar) = IsLiar w liar
IsAdmitted w (Pass seconds) = ⊤
IsAdmitted w (Tick node) = IsHonest w node
IsAdmitted w (Restart node) = IsHonest w node
IsAdmitted w (FailStore node) = IsHonest w node
IsAdmitted w (Refuse number) =
    (op : Operation) × (slice_get w.operations number ≡ Some op) × IsRunning op
