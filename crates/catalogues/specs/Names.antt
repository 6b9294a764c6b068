-- The names of a catalogue, and how they are written in its lines.
use Rattle.std.specs.Prelude.{ℕ, ◌<◌, ◌==◌, ◌||◌, Bool, if◌then◌else◌, List, [], ◌∷◌, length}
use Rattle.std.specs.List.{AllByRecursion, flat_map, list_any}

-- some bytes, none of them a NUL
pub record IsName (name : List ℕ) : Type 0 where
  pub some : 0 < length name
  pub no_nul : AllByRecursion (λ c. 0 < c) name

-- a backslash, a line feed or a carriage return, which has to be escaped
abbrev pub is_escaped : ℕ → Bool
is_escaped c = c == 92 || c == 10 || c == 13

-- what is written for a byte: `\\`, `\n`, `\r`, or itself
abbrev pub written_byte : ℕ → List ℕ
written_byte c =
    if c == 92 then 92 ∷ 92 ∷ []
    else if c == 10 then 92 ∷ 110 ∷ []
    else if c == 13 then 92 ∷ 114 ∷ []
    else c ∷ []

-- what is written for a name
abbrev pub written : List ℕ → List ℕ
written name = flat_map written_byte name

-- a line with an escaped name begins with a backslash, and no other does
abbrev pub mark : Bool → List ℕ
mark escaped = if escaped then 92 ∷ [] else []

abbrev pub escape_mark : List ℕ → List ℕ
escape_mark name = mark (list_any is_escaped name)
