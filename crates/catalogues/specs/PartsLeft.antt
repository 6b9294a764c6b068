-- The parts of a name that are still to come.
use Rattle.std.specs.Prelude.{ℕ, List, [], Option, None, Some}
use Rattle.catalogues.specs.Below.{parts_of}

abbrev pub parts_left : Option (List ℕ) → List (List ℕ)
parts_left None = []
parts_left (Some rest) = parts_of rest
