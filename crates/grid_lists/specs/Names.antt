-- The names of a list of files.
use Rattle.std.specs.Prelude.{◌-◌, ◌==◌, ℕ, List, [], ◌∷◌, if◌then◌else◌, length, slice_index, take}
use Rattle.std.specs.List.{slice_split}

-- a text without the byte at its end, where that is this one
abbrev pub without_end : ℕ → List ℕ → List ℕ
without_end end text =
    if slice_index text (length text - 1) == end then take (length text - 1) text else text

-- the names of a list, each of which ends with this byte; the last may lack it
abbrev pub names_in : ℕ → List ℕ → List (List ℕ)
names_in end [] = []
names_in end (c ∷ text) = slice_split (λ x. x == end) (without_end end (c ∷ text))
