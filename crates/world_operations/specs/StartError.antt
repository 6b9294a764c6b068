-- The number of each refusal of an operation's start.
use Rattle.std.specs.Prelude.{ℕ}
use Rattle.world_operations.specs.declared.task.StartError.{StartError}
use Rattle.world_operations.specs.declared.task.StartError.TheVariants.{OutOfMemory, Refused}

abbrev pub refusal_number : StartError → ℕ
refusal_number OutOfMemory = 1
refusal_number Refused = 80
