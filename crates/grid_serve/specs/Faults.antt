-- The numbers and the exit statuses of the faults of serving.
use Rattle.std.specs.Prelude.{ℕ, Bool, true, false}
use Rattle.grid_faults.specs.Fault.{fault_number, fault_status, has_reason}
use Rattle.grid_serve.specs.declared.fault.ServeFault.{ServeFault}
use Rattle.grid_serve.specs.declared.fault.ServeFault.TheVariants.{Fault, BadAddress, NotLocal}
use Rattle.grid_serve.specs.declared.fault.ServeFault.TheVariants.{Socket}

abbrev pub serve_number : ServeFault → ℕ
serve_number (Fault fault) = fault_number fault
serve_number (Socket _ _) = 91
serve_number (BadAddress _) = 103
serve_number (NotLocal _) = 104

abbrev pub serve_status : ServeFault → ℕ
serve_status (Fault fault) = fault_status fault
serve_status (Socket _ _) = 7
serve_status (BadAddress _) = 3
serve_status (NotLocal _) = 3

-- whether a line tells why the fault came
abbrev pub serve_has_reason : ServeFault → Bool
serve_has_reason (Fault fault) = has_reason fault
serve_has_reason (Socket _ _) = true
serve_has_reason _ = false
