-- The numbers and names of the refusals.
use Rattle.std.specs.Prelude.{ℕ, List, codes}
use Rattle.cap_text.specs.declared.error.CapError.{CapError}
use Rattle.cap_text.specs.declared.error.CapError.TheVariants.{OutOfMemory, UnknownKind, BadBase32}
use Rattle.cap_text.specs.declared.error.CapError.TheVariants.{BadNumber, BadParameters, WrongParts}
use Rattle.cap_text.specs.declared.error.CapError.TheVariants.{LitTooLong}

-- the number of a refusal
abbrev pub number_of : CapError → ℕ
number_of OutOfMemory = 1
number_of UnknownKind = 10
number_of BadBase32 = 11
number_of BadNumber = 12
number_of BadParameters = 13
number_of WrongParts = 14
number_of LitTooLong = 15

-- its name
abbrev pub name_of : CapError → List ℕ
name_of OutOfMemory = codes "OutOfMemory"
name_of UnknownKind = codes "UnknownKind"
name_of BadBase32 = codes "BadBase32"
name_of BadNumber = codes "BadNumber"
name_of BadParameters = codes "BadParameters"
name_of WrongParts = codes "WrongParts"
name_of LitTooLong = codes "LitTooLong"
