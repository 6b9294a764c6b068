-- The number of each refusal, and which one a fault of a source is.
use Rattle.std.specs.Prelude.{ℕ}
use Rattle.sources.specs.declared.error.PartFault.{PartFault}
use Rattle.sources.specs.declared.error.PartFault.TheVariants.{Ended, Unreadable}
use Rattle.file_streaming.specs.declared.error.PrepareError.{PrepareError}
use Rattle.file_streaming.specs.declared.error.PrepareError.TheVariants.{OutOfMemory}
use Rattle.file_streaming.specs.declared.error.PrepareError.TheVariants.{SourceChanged}
use Rattle.file_streaming.specs.declared.error.PrepareError.TheVariants.{SourceFault}
use Rattle.file_streaming.specs.declared.error.PrepareError.TheVariants.{TooLarge}
use Rattle.file_streaming.specs.declared.error.PrepareError.TheVariants.{TooManySegments}

abbrev pub refusal_number : PrepareError → ℕ
refusal_number OutOfMemory = 1
refusal_number TooLarge = 30
refusal_number TooManySegments = 31
refusal_number SourceChanged = 74
refusal_number SourceFault = 75

abbrev pub error_of : PartFault → PrepareError
error_of Ended = SourceChanged
error_of Unreadable = SourceFault
