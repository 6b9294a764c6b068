-- Whether the ends of a pattern take a name, for private clauses.
use Rattle.std.specs.Prelude.{◌≡◌, ◌==◌, ◌&&◌, ◌||◌, ◌++◌, ℕ, Bool, List, false, if◌then◌else◌}
use Rattle.std.specs.Prelude.{length, not, slice_index_or}
use Rattle.catalogues.specs.Patterns.{is_further, taken}

-- a row has this answer for an end of a pattern, by its length
abbrev pub Tells : List Bool → List ℕ → List ℕ → Type 0
Tells row name end = slice_index_or row (length end) false ≡ taken name end

-- for each end of a pattern
abbrev pub TellsAll : List Bool → List ℕ → List ℕ → Type 0
TellsAll row name pattern =
    (before end : List ℕ) → pattern ≡ before ++ end → Tells row name end

-- The answer for the end of a pattern that begins with `x`, and a name that begins with `c`: by
-- those for the shorter end and this name; for the shorter end, this one, and what is behind a `\`,
-- and the name behind `c`.
abbrev pub answer : ℕ → ℕ → Bool → Bool → Bool → Bool → Bool
answer c x shorter after here behind = if is_further c && not (is_further x) then here
    else if x == 42 then shorter || (not (c == 47) && here)
    else if x == 63 then not (c == 47) && after
    else if x == 92 then behind
    else c == x && after
