-- A name from what is written for it.
use Rattle.std.specs.Prelude.{◌≡◌, ℕ, ◌<◌, ◌==◌, Bool, true, false, if◌then◌else◌, List, []}
use Rattle.std.specs.Prelude.{◌∷◌, ◌++◌}
use Rattle.std.specs.List.{AllByRecursion}
use Rattle.catalogues.specs.Names.{IsName, written, written_byte}

-- what a byte behind a backslash stands for
abbrev pub meant : ℕ → ℕ
meant c = if c == 110 then 10 else if c == 114 then 13 else c

-- what some written bytes stand for, which may stand behind a backslash
abbrev pub unwritten_from : Bool → List ℕ → List ℕ
unwritten_from behind [] = []
unwritten_from true (c ∷ rest) = meant c ∷ unwritten_from false rest
unwritten_from false (c ∷ rest) =
    if c == 92 then unwritten_from true rest else c ∷ unwritten_from false rest

-- the name for which this is written
unfoldable pub unwritten : List ℕ → List ℕ
unwritten text = unwritten_from false text

-- this is written for a name, or for nothing
abbrev pub IsWritten : List ℕ → Type 0
IsWritten text = (bytes : List ℕ) × AllByRecursion (λ c. 0 < c) bytes × (text ≡ written bytes)

-- it begins with what is written for a byte
abbrev pub BeginsWritten : List ℕ → Type 0
BeginsWritten text = (c : ℕ) × ((rest : List ℕ) × (0 < c) × (text ≡ written_byte c ++ rest))

-- this is written for the name that it stands for
pub record IsWrittenName (text : List ℕ) : Type 0 where
  pub name : IsName (unwritten text)
  pub is : text ≡ written (unwritten text)
