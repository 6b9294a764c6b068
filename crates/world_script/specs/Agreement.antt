-- Whether all bytes agree that were handed out.
use Rattle.std.specs.Prelude.{◌≡◌, ℕ, ◌+◌, List, Some, slice_get, Contains}
use Rattle.cap_text.specs.Cap.{ReadCapValue}
use Rattle.file_encoding.specs.Params.{UploadParameters}
use Rattle.file_upload.specs.Prepared.{prepared_of}
use Rattle.download_segments.specs.declared.piece.Piece.{Piece}
use Rattle.world_operations.specs.declared.job.Job.TheVariants.{Upload, Download}
use Rattle.world_operations.specs.declared.operation.Operation.{Operation}
use Rattle.world_operations.specs.declared.status.Status.TheVariants.{Happy}
use Rattle.world_operations.specs.Jobs.{IsUpload}
use Rattle.world_operations.specs.Status.{status_of}

-- bytes from an offset on have this byte at a position
abbrev pub HasByte : ℕ → List ℕ → ℕ → ℕ → Type 0
HasByte from bytes position byte =
    (offset : ℕ) × (position ≡ from + offset) × (slice_get bytes offset ≡ Some byte)

-- a download of this cap handed this byte out for this position
pub record HandedOut (operation : Operation) (cap : ReadCapValue) (position byte : ℕ) : Type 0 where
  pub from : ℕ
  pub to : ℕ
  pub piece : Piece
  pub job : operation.job ≡ Download cap from to
  pub handed_out : Contains operation.given piece
  pub byte_is : HasByte piece.offset piece.bytes position byte

-- a happy upload of this cap's file has this byte at this position
pub record WasUploaded (operation : Operation) (cap : ReadCapValue) (position byte : ℕ) : Type 0
  where
    pub file : List ℕ
    pub secret : List ℕ
    pub p : UploadParameters
    pub pairs : ℕ
    pub job : operation.job ≡ Upload file secret p
    pub upload : IsUpload file secret p
    pub cap_is : cap ≡ (prepared_of file secret p).cap
    pub happy : status_of operation ≡ Happy pairs
    pub byte_is : slice_get file position ≡ Some byte

-- Two downloads of one cap handed out the same byte for each position, and a download that of each
-- happy upload of its cap's file.
pub record Agree (operations : List Operation) : Type 0 where
  pub downloads : (first second : Operation) (cap : ReadCapValue) (position a b : ℕ)
      → Contains operations first → Contains operations second
      → HandedOut first cap position a → HandedOut second cap position b → a ≡ b
  pub uploads : (upload download : Operation) (cap : ReadCapValue) (position a b : ℕ)
      → Contains operations upload → Contains operations download
      → WasUploaded upload cap position a → HandedOut download cap position b → a ≡ b
