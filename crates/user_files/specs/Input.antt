-- What is to be stored.
use Rattle.std.specs.Prelude.{ℕ, ◌≤◌, ◌<◌, length}
use Rattle.user_files.specs.declared.inputs.Input.{Input}
use Rattle.user_files.specs.declared.inputs.Input.TheVariants.{Held, Opened}

-- bytes are held up to this number, and files of more are opened
abbrev pub IsWithin : {F : Type 0} → ℕ → Input F → Type 0
IsWithin most (Held bytes) = length bytes.items ≤ most
IsWithin most (Opened file size) = most < size
