-- The number of each refusal, and which one a fault of a source of padded ciphertext is.
use Rattle.std.specs.Prelude.{ℕ}
use Rattle.sources.specs.declared.error.PartFault.{PartFault}
use Rattle.sources.specs.declared.error.PartFault.TheVariants.{Ended, Unreadable}
use Rattle.file_streaming.specs.declared.remake_error.RemakeError.{RemakeError}
use Rattle.file_streaming.specs.declared.remake_error.RemakeError.TheVariants.{Inconsistent, OutOfMemory}
use Rattle.file_streaming.specs.declared.remake_error.RemakeError.TheVariants.{SourceChanged, SourceFault}

abbrev pub remake_number : RemakeError → ℕ
remake_number OutOfMemory = 1
remake_number Inconsistent = 72
remake_number SourceChanged = 74
remake_number SourceFault = 75

abbrev pub remake_error_of : PartFault → RemakeError
remake_error_of Ended = SourceChanged
remake_error_of Unreadable = SourceFault
