-- Which fault an error of a crate below becomes.
use Rattle.download_core.specs.declared.status.DownloadError.{DownloadError}
use Rattle.download_core.specs.declared.status.DownloadError.TheVariants as downloads
use Rattle.file_encoding.specs.declared.error.EncodeError.{EncodeError}
use Rattle.file_encoding.specs.declared.error.EncodeError.TheVariants as encodings
use Rattle.file_streaming.specs.declared.remake_error.RemakeError.{RemakeError}
use Rattle.file_streaming.specs.declared.remake_error.RemakeError.TheVariants as remaking
use Rattle.file_streaming.specs.declared.error.PrepareError.{PrepareError}
use Rattle.file_streaming.specs.declared.error.PrepareError.TheVariants as preparing
use Rattle.grid_faults.specs.declared.fault.Fault.{Fault}
use Rattle.grid_faults.specs.declared.fault.Fault.TheVariants.{OutOfMemory, BadParameters}
use Rattle.grid_faults.specs.declared.fault.Fault.TheVariants.{TooLarge, TooManySegments}
use Rattle.grid_faults.specs.declared.fault.Fault.TheVariants.{Inconsistent}
use Rattle.grid_faults.specs.declared.fault.Fault.TheVariants.{BadRange, TurnLimit}
use Rattle.grid_faults.specs.declared.fault.Fault.TheVariants.{SourceChanged, SourceFault}
use Rattle.local_grid.specs.declared.error.LoopError.{LoopError}
use Rattle.local_grid.specs.declared.error.LoopError.TheVariants as loops
use Rattle.upload_core.specs.declared.pieces.PieceFault.{PieceFault}
use Rattle.upload_core.specs.declared.pieces.PieceFault.TheVariants as pieces

-- the fault that a fault of a share's pieces becomes
abbrev pub fault_of_piece : PieceFault → Fault
fault_of_piece pieces.OutOfMemory = OutOfMemory
fault_of_piece pieces.SourceChanged = SourceChanged
fault_of_piece pieces.SourceFault = SourceFault

-- the fault that an error of encoding becomes
abbrev pub fault_of_encoding : EncodeError → Fault
fault_of_encoding encodings.OutOfMemory = OutOfMemory
fault_of_encoding encodings.BadParameters = BadParameters
fault_of_encoding encodings.TooLarge = TooLarge
fault_of_encoding encodings.TooManySegments = TooManySegments

-- the fault that the refusal of a file that is read twice becomes
abbrev pub fault_of_preparing : PrepareError → Fault
fault_of_preparing preparing.OutOfMemory = OutOfMemory
fault_of_preparing preparing.TooLarge = TooLarge
fault_of_preparing preparing.TooManySegments = TooManySegments
fault_of_preparing preparing.SourceChanged = SourceChanged
fault_of_preparing preparing.SourceFault = SourceFault

-- the fault that the refusal to make shares anew becomes
abbrev pub fault_of_remaking : RemakeError → Fault
fault_of_remaking remaking.OutOfMemory = OutOfMemory
fault_of_remaking remaking.Inconsistent = Inconsistent
fault_of_remaking remaking.SourceChanged = SourceChanged
fault_of_remaking remaking.SourceFault = SourceFault

-- the fault that the refusal of a download's start becomes
abbrev pub fault_of_download : DownloadError → Fault
fault_of_download downloads.OutOfMemory = OutOfMemory
fault_of_download downloads.BadRange = BadRange

-- the fault that the loop's refusal becomes
abbrev pub fault_of_loop : LoopError → Fault
fault_of_loop loops.OutOfMemory = OutOfMemory
fault_of_loop loops.TurnLimit = TurnLimit
