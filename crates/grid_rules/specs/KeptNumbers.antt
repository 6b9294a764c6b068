-- An error of a crate below keeps its number where it becomes a fault.
use Rattle.std.specs.Prelude.{◌≡◌}
use Rattle.cap_text.specs.CapError as cap_errors
use Rattle.cap_text.specs.declared.error.CapError.{CapError}
use Rattle.download_core.specs.Refusals as download_errors
use Rattle.download_core.specs.declared.status.DownloadError.{DownloadError}
use Rattle.file_encoding.specs.Refusals as file_errors
use Rattle.file_encoding.specs.declared.error.EncodeError.{EncodeError}
use Rattle.file_streaming.specs.RemakeError as remake_errors
use Rattle.file_streaming.specs.declared.remake_error.RemakeError.{RemakeError}
use Rattle.file_streaming.specs.PrepareError as prepare_errors
use Rattle.file_streaming.specs.declared.error.PrepareError.{PrepareError}
use Rattle.local_grid.specs.Refusals as loop_errors
use Rattle.local_grid.specs.declared.error.LoopError.{LoopError}
use Rattle.upload_core.specs.PieceFault as piece_faults
use Rattle.upload_core.specs.declared.pieces.PieceFault.{PieceFault}
use Rattle.grid_faults.specs.Fault.{fault_number, fault_of_cap}
use Rattle.grid_rules.specs.Becoming.{fault_of_download, fault_of_encoding, fault_of_loop}
use Rattle.grid_rules.specs.Becoming.{fault_of_piece, fault_of_preparing, fault_of_remaking}

pub record NumbersAreKept : Type 0 where
  pub cap : (e : CapError) → fault_number (fault_of_cap e) ≡ cap_errors.number_of e
  pub piece : (e : PieceFault) → fault_number (fault_of_piece e) ≡ piece_faults.fault_number e
  pub encoding : (e : EncodeError)
      → fault_number (fault_of_encoding e) ≡ file_errors.encode_refusal_number e
  pub preparing : (e : PrepareError)
      → fault_number (fault_of_preparing e) ≡ prepare_errors.refusal_number e
  pub remaking : (e : RemakeError)
      → fault_number (fault_of_remaking e) ≡ remake_errors.remake_number e
  pub download : (e : DownloadError)
      → fault_number (fault_of_download e) ≡ download_errors.refusal_number e
  pub loop : (e : LoopError) → fault_number (fault_of_loop e) ≡ loop_errors.refusal_number e
