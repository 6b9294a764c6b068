-- The number of each refusal of an event.
use Rattle.std.specs.Prelude.{ℕ}
use Rattle.world.specs.declared.event.WorldError.{WorldError}
use Rattle.world.specs.declared.event.WorldError.TheVariants.{OutOfMemory, BadEvent, Stopped}

abbrev pub refusal_number : WorldError → ℕ
refusal_number OutOfMemory = 1
refusal_number BadEvent = 80
refusal_number Stopped = 81
