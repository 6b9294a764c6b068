-- Paths in what is told.
use Rattle.std.specs.Prelude.{ℕ, if◌then◌else◌}
use Rattle.std.specs.Char.{is_control}

-- a control character is told as `?`
abbrev pub told_char : ℕ → ℕ
told_char c = if is_control c then 63 else c
