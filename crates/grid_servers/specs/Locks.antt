-- Locks of servers' folders.
use Rattle.std.specs.Prelude.{⊤}
use Rattle.grid_faults.specs.declared.fault.Fault.{Fault}
use Rattle.grid_faults.specs.declared.fault.Fault.TheVariants.{OutOfMemory, InUse}

-- why a lock was not taken: memory was refused, or the folder is in use
abbrev pub IsLockFault : Fault → Type 0
IsLockFault OutOfMemory = ⊤
IsLockFault (InUse path) = ⊤
IsLockFault _ = ⊥
