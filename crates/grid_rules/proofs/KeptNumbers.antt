-- Each error that becomes a fault keeps its number.
use Rattle.std.proofs.Common.{◌≡◌, refl}
use Rattle.cap_text.specs.declared.error.CapError.{CapError}
use Rattle.cap_text.specs.declared.error.CapError.TheVariants as caps
use Rattle.cap_text.specs.CapError.{number_of}
use Rattle.download_core.specs.declared.status.DownloadError.{DownloadError}
use Rattle.download_core.specs.declared.status.DownloadError.TheVariants as downloads
use Rattle.download_core.specs.Refusals as download_errors
use Rattle.file_encoding.specs.declared.error.EncodeError.{EncodeError}
use Rattle.file_encoding.specs.declared.error.EncodeError.TheVariants as encodings
use Rattle.file_encoding.specs.Refusals.{encode_refusal_number}
use Rattle.file_streaming.specs.declared.remake_error.RemakeError.{RemakeError}
use Rattle.file_streaming.specs.declared.remake_error.RemakeError.TheVariants as remaking
use Rattle.file_streaming.specs.RemakeError as remake_errors
use Rattle.file_streaming.specs.declared.error.PrepareError.{PrepareError}
use Rattle.file_streaming.specs.declared.error.PrepareError.TheVariants as preparing
use Rattle.file_streaming.specs.PrepareError as prepare_errors
use Rattle.local_grid.specs.declared.error.LoopError.{LoopError}
use Rattle.local_grid.specs.declared.error.LoopError.TheVariants as loops
use Rattle.local_grid.specs.Refusals as loop_errors
use Rattle.upload_core.specs.declared.pieces.PieceFault.{PieceFault}
use Rattle.upload_core.specs.declared.pieces.PieceFault.TheVariants as pieces
use Rattle.upload_core.specs.PieceFault as piece_faults
use Rattle.grid_faults.specs.Fault.{fault_number, fault_of_cap}
use Rattle.grid_rules.specs.Becoming.{fault_of_download, fault_of_encoding, fault_of_loop}
use Rattle.grid_rules.specs.Becoming.{fault_of_piece, fault_of_preparing, fault_of_remaking}
use Rattle.grid_rules.specs.KeptNumbers.{NumbersAreKept}

kept_cap : (e : CapError) → fault_number (fault_of_cap e) ≡ number_of e
kept_cap caps.OutOfMemory = refl
kept_cap caps.UnknownKind = refl
kept_cap caps.BadBase32 = refl
kept_cap caps.BadNumber = refl
kept_cap caps.BadParameters = refl
kept_cap caps.WrongParts = refl
kept_cap caps.LitTooLong = refl

kept_piece : (e : PieceFault) → fault_number (fault_of_piece e) ≡ piece_faults.fault_number e
kept_piece pieces.OutOfMemory = refl
kept_piece pieces.SourceChanged = refl
kept_piece pieces.SourceFault = refl

kept_encoding : (e : EncodeError) → fault_number (fault_of_encoding e) ≡ encode_refusal_number e
kept_encoding encodings.OutOfMemory = refl
kept_encoding encodings.BadParameters = refl
kept_encoding encodings.TooLarge = refl
kept_encoding encodings.TooManySegments = refl

kept_preparing : (e : PrepareError) → fault_number (fault_of_preparing e) ≡ prepare_errors.refusal_number e
kept_preparing preparing.OutOfMemory = refl
kept_preparing preparing.TooLarge = refl
kept_preparing preparing.TooManySegments = refl
kept_preparing preparing.SourceChanged = refl
kept_preparing preparing.SourceFault = refl

kept_remaking : (e : RemakeError) → fault_number (fault_of_remaking e) ≡ remake_errors.remake_number e
kept_remaking remaking.OutOfMemory = refl
kept_remaking remaking.Inconsistent = refl
kept_remaking remaking.SourceChanged = refl
kept_remaking remaking.SourceFault = refl

kept_download : (e : DownloadError) → fault_number (fault_of_download e) ≡ download_errors.refusal_number e
kept_download downloads.OutOfMemory = refl
kept_download downloads.BadRange = refl

kept_loop : (e : LoopError) → fault_number (fault_of_loop e) ≡ loop_errors.refusal_number e
kept_loop loops.OutOfMemory = refl
kept_loop loops.TurnLimit = refl

pub numbers_are_kept : NumbersAreKept
numbers_are_kept = record {
  cap = kept_cap;
  piece = kept_piece;
  encoding = kept_encoding;
  preparing = kept_preparing;
  remaking = kept_remaking;
  download = kept_download;
  loop = kept_loop;
}
