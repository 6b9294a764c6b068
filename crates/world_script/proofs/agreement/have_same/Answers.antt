use Rattle.std.proofs.Common.{◌≡◌, ◌↔◌, IsTrue, List, ℕ, true, false, rules, arith, subst}
use Rattle.download_segments.specs.declared.piece.Piece.{Piece}
use Rattle.world_script.specs.Agreeing.{AreSame}
use Rattle.world_script.proofs.Agreeing.{affirmed, all_at, first_all, first_more, refuted}
use Rattle.world_script.proofs.agreement.have_same.Goals as goal

pub returns-then-not-are_same : goal.returns-then-not-are_same
returns-then-not-are_same c =
    let P : Piece → Type 0 = λ (piece : Piece). AreSame piece.offset piece.bytes c.args.offset c.args.bytes.now in
    let says : IsTrue c.are_same.result ↔ P c.piece-item.result = subst (λ (b : List ℕ). IsTrue c.are_same.result ↔ AreSame c.piece-item.result.offset b c.args.offset c.args.bytes.now) c.as_slice.ensures c.are_same.ensures in
    let wrong : c.are_same.result ≡ false = search rules in
    refuted c.are_same.result says wrong (λ all. all_at P c.args.pieces.now c.loop-piece.piece-index c.piece-item.result all c.loop-piece-test.true c.piece-item.is)

pub loop-piece-preserved : goal.loop-piece-preserved
loop-piece-preserved c =
    let P : Piece → Type 0 = λ (piece : Piece). AreSame piece.offset piece.bytes c.args.offset c.args.bytes.now in
    let says : IsTrue c.are_same.result ↔ P c.piece-item.result = subst (λ (b : List ℕ). IsTrue c.are_same.result ↔ AreSame c.piece-item.result.offset b c.args.offset c.args.bytes.now) c.as_slice.ensures c.are_same.ensures in
    let yes : c.are_same.result ≡ true = search rules in
    first_more P c.args.pieces.now c.loop-piece.piece-index c.piece-item.result c.loop-piece.invariant c.loop-piece-test.true c.piece-item.is (says.0 yes)

pub returns : goal.returns
returns c =
    let P : Piece → Type 0 = λ (piece : Piece). AreSame piece.offset piece.bytes c.args.offset c.args.bytes.now in
    affirmed (first_all P c.args.pieces.now c.loop-piece.piece-index c.loop-piece.invariant (omega (arith, c.loop-piece-test.false)))
