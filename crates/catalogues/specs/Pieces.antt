-- Pieces of a text.
use Rattle.std.specs.Prelude.{◌≢◌, ℕ, ◌<◌, ◌≤◌, List, slice_index}
use Rattle.std.specs.List.{AllByRecursion}

-- no byte of a text is this one
abbrev pub Lacks : ℕ → List ℕ → Type 0
Lacks byte text = AllByRecursion (λ c. c ≢ byte) text

-- `0` to `9`
abbrev pub IsDigit : ℕ → Type 0
IsDigit c = (48 ≤ c) × (c ≤ 57)

-- all of a text is digits
abbrev pub AreDigits : List ℕ → Type 0
AreDigits text = AllByRecursion IsDigit text

-- a text that goes on so has no further digit: it begins with what is below them, or is empty
abbrev pub Stops : List ℕ → Type 0
Stops rest = slice_index rest 0 < 48
