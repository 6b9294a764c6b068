-- Words of the clauses that take fields off the front of a text.
use Rattle.std.specs.Prelude.{◌≢◌, ℕ, List, [], ◌∷◌}
use Rattle.ueb.specs.declared.error.UebError.{UebError}
use Rattle.ueb.specs.declared.error.UebError.TheVariants.{Malformed, KeyOrder}
use Rattle.ueb.specs.Fields.{IsMalformed, IsOutOfOrder}

abbrev pub HasNoColon : List ℕ → Type 0
HasNoColon [] = Unit {0}
HasNoColon (byte ∷ bytes) = (byte ≢ 58) × HasNoColon bytes

-- the first fault of a text's fields
abbrev pub IsFieldFault : List ℕ → UebError → Type 0
IsFieldFault bytes Malformed = IsMalformed bytes
IsFieldFault bytes KeyOrder = IsOutOfOrder bytes
IsFieldFault bytes error = ⊥
