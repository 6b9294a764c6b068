-- The numbers and the exit statuses of the faults, and which fault an error of a cap becomes.
use Rattle.std.specs.Prelude.{ℕ, Bool, true, false}
use Rattle.cap_text.specs.CapError.{number_of}
use Rattle.cap_text.specs.declared.error.CapError.{CapError}
use Rattle.cap_text.specs.declared.error.CapError.TheVariants as caps
use Rattle.grid_faults.specs.declared.fault.Fault.{Fault}
use Rattle.grid_faults.specs.declared.fault.Fault.TheVariants.{OutOfMemory, BadParameters, Cap}
use Rattle.grid_faults.specs.declared.fault.Fault.TheVariants.{TooLarge, TooManySegments, Unhappy}
use Rattle.grid_faults.specs.declared.fault.Fault.TheVariants.{NotEnoughShares, Inconsistent}
use Rattle.grid_faults.specs.declared.fault.Fault.TheVariants.{File, BadRange, NeedsReadCap, Socket}
use Rattle.grid_faults.specs.declared.fault.Fault.TheVariants.{TurnLimit, BadEvent, Stopped}
use Rattle.grid_faults.specs.declared.fault.Fault.TheVariants.{BadScript, SourceChanged}
use Rattle.grid_faults.specs.declared.fault.Fault.TheVariants.{SourceFault}
use Rattle.grid_faults.specs.declared.fault.Fault.TheVariants.{AlreadyGrid, SameFolder, OtherMark}
use Rattle.grid_faults.specs.declared.fault.Fault.TheVariants.{BadMark, Output, NoServers}
use Rattle.grid_faults.specs.declared.fault.Fault.TheVariants.{UnknownGrid, NotEmpty, InUse}

-- the number of a fault
abbrev pub fault_number : Fault → ℕ
fault_number OutOfMemory = 1
fault_number BadParameters = 2
fault_number (Cap error) = number_of error
fault_number TooLarge = 30
fault_number TooManySegments = 31
fault_number (Unhappy _ _) = 70
fault_number NotEnoughShares = 71
fault_number Inconsistent = 72
fault_number BadRange = 73
fault_number SourceChanged = 74
fault_number SourceFault = 75
fault_number BadEvent = 80
fault_number Stopped = 81
fault_number (File _ _) = 90
fault_number (Socket _) = 91
fault_number TurnLimit = 92
fault_number (BadScript _) = 93
fault_number NeedsReadCap = 94
fault_number AlreadyGrid = 95
fault_number (SameFolder _ _) = 96
fault_number (OtherMark _) = 97
fault_number (BadMark _) = 98
fault_number Output = 99
fault_number (NoServers _) = 100
fault_number (UnknownGrid _) = 101
fault_number (NotEmpty _) = 102
fault_number (InUse _) = 105

-- the exit status that it gives
abbrev pub fault_status : Fault → ℕ
fault_status OutOfMemory = 7
fault_status BadParameters = 3
fault_status (Cap _) = 3
fault_status TooLarge = 3
fault_status TooManySegments = 3
fault_status (Unhappy _ _) = 4
fault_status NotEnoughShares = 5
fault_status Inconsistent = 6
fault_status BadRange = 3
fault_status SourceChanged = 7
fault_status SourceFault = 7
fault_status BadEvent = 3
fault_status Stopped = 7
fault_status (File _ _) = 7
fault_status (Socket _) = 7
fault_status TurnLimit = 7
fault_status (BadScript _) = 3
fault_status NeedsReadCap = 3
fault_status AlreadyGrid = 3
fault_status (SameFolder _ _) = 3
fault_status (OtherMark _) = 3
fault_status (BadMark _) = 7
fault_status Output = 7
fault_status (NoServers _) = 5
fault_status (UnknownGrid _) = 3
fault_status (NotEmpty _) = 3
fault_status (InUse _) = 7

-- Does a line of its own tell why the fault came?
abbrev pub has_reason : Fault → Bool
has_reason (File _ _) = true
has_reason (Socket _) = true
has_reason TooManySegments = true
has_reason _ = false

-- the fault that a cap's error becomes
abbrev pub fault_of_cap : CapError → Fault
fault_of_cap caps.OutOfMemory = OutOfMemory
fault_of_cap caps.UnknownKind = Cap caps.UnknownKind
fault_of_cap caps.BadBase32 = Cap caps.BadBase32
fault_of_cap caps.BadNumber = Cap caps.BadNumber
fault_of_cap caps.BadParameters = Cap caps.BadParameters
fault_of_cap caps.WrongParts = Cap caps.WrongParts
fault_of_cap caps.LitTooLong = Cap caps.LitTooLong
