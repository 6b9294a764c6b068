-- A source with what is kept of it: where the bytes of an upload's shares come from.
use Rattle.std.specs.Prelude.{◌≡◌, ℕ, List, length}
use Rattle.sources.specs.Source.{HasFailedMore}
use Rattle.block_making.specs.Making.{WereRead}
use Rattle.file_streaming.specs.Piece.{GivesPiece, IsOfNoFile}
use Rattle.file_streaming.specs.Prepared.{PreparedFile}
use Rattle.block_making.specs.declared.error.PieceError.{PieceError}
use Rattle.block_making.specs.declared.error.PieceError.TheVariants as piece_error
use Rattle.upload_core.specs.declared.pieces.PieceFault.{PieceFault}
use Rattle.upload_core.specs.declared.pieces.PieceFault.TheVariants.{OutOfMemory, SourceChanged}
use Rattle.upload_core.specs.declared.pieces.PieceFault.TheVariants.{SourceFault}

-- a source, and what is kept of what its second pass brought
pub record Streaming (S : Type 0) : Type 0 where
  pub source : S
  pub kept : PreparedFile

-- A piece was given, by the hashes that are kept, and these stay. Of the source the segments were
-- read whose blocks it meets.
pub record GaveBytes {S : Type 0} (gives : S → ℕ → List ℕ → S → Type 0) (old : Streaming S)
    (share offset : ℕ) (bytes : List ℕ) (new : Streaming S) : Type 0 where
  pub piece : GivesPiece old.kept share offset bytes
  pub kept : new.kept ≡ old.kept
  pub read : WereRead gives old.source old.kept.geometry offset (length bytes) new.source

-- Why no piece was given. A piece takes no memory. For each file whose hashes are kept the source
-- brought other bytes than the file's, or ended before the file's end; or a read failed.
abbrev pub IsWhyNone : {S : Type 0} → (S → ℕ → List ℕ → S → Type 0) → (S → ℕ) → Streaming S
    → PieceFault → S → Type 0
IsWhyNone gives failures old OutOfMemory new = ⊥
IsWhyNone gives failures old SourceChanged new = IsOfNoFile gives old.kept old.source new
IsWhyNone gives failures old SourceFault new = HasFailedMore (failures old.source) (failures new)

-- no piece was given, and what is kept stays
pub record GaveNone {S : Type 0} (gives : S → ℕ → List ℕ → S → Type 0) (failures : S → ℕ)
    (old : Streaming S) (fault : PieceFault) (new : Streaming S) : Type 0 where
  pub kept : new.kept ≡ old.kept
  pub why : IsWhyNone gives failures old fault new.source

-- what an upload calls the fault
abbrev pub fault_of : PieceError → PieceFault
fault_of piece_error.SourceChanged = SourceChanged
fault_of piece_error.SourceFault = SourceFault
