use Rattle.download_segments.specs.declared.piece.Piece.{Piece}
use Rattle.world_script.specs.Agreeing.{AllHave}
use Rattle.world_script.proofs.Agreeing.{AreFirst}
use Rattle.world_script.proofs.agreement.have_pieces.Given as goal

abbrev pub invariant-loop-piece : goal.invariant-loop-piece
invariant-loop-piece l = AreFirst (λ (piece : Piece). AllHave l.cap piece.offset piece.bytes l.operations) l.operation.given l.piece-index
