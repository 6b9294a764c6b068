-- The number of each refusal of a script.
use Rattle.std.specs.Prelude.{ℕ}
use Rattle.world_script.specs.declared.error.ScriptError.{ScriptError}
use Rattle.world_script.specs.declared.error.ScriptError.TheVariants.{OutOfMemory, BadScript}

abbrev pub refusal_number : ScriptError → ℕ
refusal_number OutOfMemory = 1
refusal_number (BadScript line) = 93
