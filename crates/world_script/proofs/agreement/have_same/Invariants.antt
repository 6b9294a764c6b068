use Rattle.download_segments.specs.declared.piece.Piece.{Piece}
use Rattle.world_script.specs.Agreeing.{AreSame}
use Rattle.world_script.proofs.Agreeing.{AreFirst}
use Rattle.world_script.proofs.agreement.have_same.Given as goal

abbrev pub invariant-loop-piece : goal.invariant-loop-piece
invariant-loop-piece l = AreFirst (λ (piece : Piece). AreSame piece.offset piece.bytes l.offset l.bytes) l.pieces l.piece-index
