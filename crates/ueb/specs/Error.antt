-- The refusals' numbers and names.
use Rattle.std.specs.Prelude.{ℕ, List, ◌++◌, codes}
use Rattle.ueb.specs.declared.error.UebError.{UebError}
use Rattle.ueb.specs.Key.{key_name}
use Rattle.ueb.specs.declared.error.UebError.TheVariants.{OutOfMemory, Malformed, KeyOrder}
use Rattle.ueb.specs.declared.error.UebError.TheVariants.{MissingKey, Disagrees, TooLong}

abbrev pub number_of : UebError → ℕ
number_of OutOfMemory = 1
number_of Malformed = 20
number_of KeyOrder = 21
number_of (MissingKey key) = 22
number_of (Disagrees key) = 23
number_of TooLong = 24

-- the name, and the key that it is about
abbrev pub name_of : UebError → List ℕ
name_of OutOfMemory = codes "OutOfMemory"
name_of Malformed = codes "Malformed"
name_of KeyOrder = codes "KeyOrder"
name_of (MissingKey key) = codes "MissingKey " ++ key_name key
name_of (Disagrees key) = codes "Disagrees " ++ key_name key
name_of TooLong = codes "TooLong"
