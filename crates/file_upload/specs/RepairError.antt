-- The number of each refusal of a repair, and which it is where no shares are made.
use Rattle.std.specs.Prelude.{ℕ}
use Rattle.file_encoding.specs.declared.reading.ReadError.{ReadError}
use Rattle.file_encoding.specs.declared.reading.ReadError.TheVariants as all
use Rattle.file_upload.specs.declared.repair.RepairError.{RepairError}
use Rattle.file_upload.specs.declared.repair.RepairError.TheVariants.{OutOfMemory, BadParameters}
use Rattle.file_upload.specs.declared.repair.RepairError.TheVariants.{NotEnoughShares}
use Rattle.file_upload.specs.declared.repair.RepairError.TheVariants.{Inconsistent}

abbrev pub refusal_number : RepairError → ℕ
refusal_number OutOfMemory = 1
refusal_number BadParameters = 2
refusal_number NotEnoughShares = 71
refusal_number Inconsistent = 72

-- where all shares are not made anew, there are none to upload
abbrev pub refusal_of_all : ReadError → RepairError
refusal_of_all all.OutOfMemory = OutOfMemory
refusal_of_all all.NotEnoughShares = NotEnoughShares
refusal_of_all all.Inconsistent = Inconsistent
