-- The numbers of the faults of pieces.
use Rattle.std.specs.Prelude.{ℕ}
use Rattle.upload_core.specs.declared.pieces.PieceFault.{PieceFault}
use Rattle.upload_core.specs.declared.pieces.PieceFault.TheVariants.{OutOfMemory, SourceChanged}
use Rattle.upload_core.specs.declared.pieces.PieceFault.TheVariants.{SourceFault}

abbrev pub fault_number : PieceFault → ℕ
fault_number OutOfMemory = 1
fault_number SourceChanged = 74
fault_number SourceFault = 75
