-- Words of private clauses on agreement.
use Rattle.std.specs.Prelude.{◌≡◌, ℕ, ◌+◌, List, All, Some, ⊤, slice_get}
use Rattle.cap_text.specs.Cap.{ReadCapValue}
use Rattle.file_upload.specs.Prepared.{prepared_of}
use Rattle.download_segments.specs.declared.piece.Piece.{Piece}
use Rattle.world_operations.specs.declared.job.Job.{Job}
use Rattle.world_operations.specs.declared.job.Job.TheVariants.{Upload, Download, Check, Repair}
use Rattle.world_operations.specs.declared.job.Job.TheVariants.{Changing, NoRepair}
use Rattle.world_operations.specs.declared.operation.Operation.{Operation}
use Rattle.world_operations.specs.declared.status.Status.TheVariants.{Happy}
use Rattle.world_operations.specs.Jobs.{IsUpload}
use Rattle.world_operations.specs.Status.{status_of}
use Rattle.world_script.specs.Agreement.{HasByte}

-- bytes from an offset on go on as others do, as far as both go
abbrev pub GoOn : List ℕ → ℕ → List ℕ → Type 0
GoOn bytes from others = (i a b : ℕ) → slice_get bytes (from + i) ≡ Some a
    → slice_get others i ≡ Some b → a ≡ b

-- bytes from two offsets on have the same byte wherever both have one
abbrev pub AreSame : ℕ → List ℕ → ℕ → List ℕ → Type 0
AreSame from bytes other others = (offset a b : ℕ) → HasByte from bytes offset a
    → HasByte other others offset b → a ≡ b

-- an operation, if it is a download of this cap, has the bytes from an offset on
abbrev pub Has : ReadCapValue → ℕ → List ℕ → Operation → Type 0
Has cap offset bytes op = (from to : ℕ) → op.job ≡ Download cap from to
    → All (λ (piece : Piece). AreSame piece.offset piece.bytes offset bytes) op.given

abbrev pub AllHave : ReadCapValue → ℕ → List ℕ → List Operation → Type 0
AllHave cap offset bytes operations = All (Has cap offset bytes) operations

abbrev pub IsHappy : Operation → Type 0
IsHappy op = (pairs : ℕ) × (status_of op ≡ Happy pairs)

-- All downloads agree with an operation. A script starts no upload of a source that changes.
abbrev pub AgreesAs : Job → Operation → List Operation → Type 0
AgreesAs (Download cap from to) op operations =
    All (λ (piece : Piece). AllHave cap piece.offset piece.bytes operations) op.given
AgreesAs (Upload file secret p) op operations = IsHappy op → IsUpload file secret p
    → AllHave (prepared_of file secret p).cap 0 file operations
AgreesAs (Changing one other after secret p) op operations = ⊤
AgreesAs (Check cap) op operations = ⊤
AgreesAs (Repair cap happy) op operations = ⊤
AgreesAs (NoRepair cap why) op operations = ⊤

abbrev pub AgreesWith : Operation → List Operation → Type 0
AgreesWith op operations = AgreesAs op.job op operations
