-- The number of each fault of a source.
use Rattle.std.specs.Prelude.{ℕ}
use Rattle.sources.specs.declared.error.PartFault.{PartFault}
use Rattle.sources.specs.declared.error.PartFault.TheVariants as parts
use Rattle.sources.specs.declared.error.SourceFault.{SourceFault}
use Rattle.sources.specs.declared.error.SourceFault.TheVariants as reads

abbrev pub source_fault_number : SourceFault → ℕ
source_fault_number reads.Unreadable = 75

abbrev pub part_fault_number : PartFault → ℕ
part_fault_number parts.Ended = 74
part_fault_number parts.Unreadable = 75
