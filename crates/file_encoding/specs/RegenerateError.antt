-- Which refusal of all shares becomes which of one.
use Rattle.file_encoding.specs.declared.reading.ReadError.{ReadError}
use Rattle.file_encoding.specs.declared.reading.ReadError.TheVariants as all
use Rattle.file_encoding.specs.declared.repair.RegenerateError.{RegenerateError}
use Rattle.file_encoding.specs.declared.repair.RegenerateError.TheVariants.{OutOfMemory}
use Rattle.file_encoding.specs.declared.repair.RegenerateError.TheVariants.{NotEnoughShares}
use Rattle.file_encoding.specs.declared.repair.RegenerateError.TheVariants.{Inconsistent}

-- Where all shares are not made anew, neither is one.
abbrev pub refusal_of_all : ReadError → RegenerateError
refusal_of_all all.OutOfMemory = OutOfMemory
refusal_of_all all.NotEnoughShares = NotEnoughShares
refusal_of_all all.Inconsistent = Inconsistent
