-- The range of a file's bytes that is asked for.
use Rattle.std.specs.Prelude.{ℕ, ◌≤◌, Option, unwrap_or}
use Rattle.grid_rules.specs.declared.range.ByteRange.{ByteRange}

-- The range ends with the file, where no end is named.
abbrev pub asked_range : ℕ → Option ℕ → ℕ → ByteRange
asked_range from to size = record { from = from; to = unwrap_or to size }

-- It ends neither before it begins nor behind the end of a file of so many bytes.
abbrev pub IsWithin : ℕ → ByteRange → Type 0
IsWithin size r = (r.from ≤ r.to) × (r.to ≤ size)
