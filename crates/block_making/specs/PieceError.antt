-- The number of each refusal of a piece, and which one a fault of a source is.
use Rattle.std.specs.Prelude.{ℕ}
use Rattle.sources.specs.declared.error.PartFault.{PartFault}
use Rattle.sources.specs.declared.error.PartFault.TheVariants.{Ended, Unreadable}
use Rattle.block_making.specs.declared.error.PieceError.{PieceError}
use Rattle.block_making.specs.declared.error.PieceError.TheVariants.{SourceChanged, SourceFault}

abbrev pub piece_number : PieceError → ℕ
piece_number SourceChanged = 74
piece_number SourceFault = 75

abbrev pub piece_error_of : PartFault → PieceError
piece_error_of Ended = SourceChanged
piece_error_of Unreadable = SourceFault
