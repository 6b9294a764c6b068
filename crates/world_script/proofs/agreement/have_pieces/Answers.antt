use Rattle.std.proofs.Common.{◌≡◌, ◌↔◌, IsTrue, List, ℕ, ◌<◌, ◌≤◌, length, get_or, true, false, rules, arith, subst}
use Rattle.download_segments.specs.declared.piece.Piece.{Piece}
use Rattle.world_script.specs.Agreeing.{AllHave}
use Rattle.world_script.proofs.Agreeing.{affirmed, all_at, first_all, first_more, refuted}
use Rattle.world_script.proofs.agreement.have_pieces.Goals as goal

pub returns-then-not-have_bytes : goal.returns-then-not-have_bytes
returns-then-not-have_bytes c =
    let P : Piece → Type 0 = λ (piece : Piece). AllHave c.args.cap.now piece.offset piece.bytes c.args.operations.now in
    let low : c.loop-piece.piece-index < length c.args.operation.now.given = subst (λ (ps : List Piece). c.loop-piece.piece-index < length ps) c.as_slice-piece-items.ensures c.loop-piece-test.true in
    let at : c.piece-item.result ≡ get_or c.args.operation.now.given c.loop-piece.piece-index c.piece-item.result = subst (λ (ps : List Piece). c.piece-item.result ≡ get_or ps c.loop-piece.piece-index c.piece-item.result) c.as_slice-piece-items.ensures c.piece-item.is in
    let says : IsTrue c.have_bytes.result ↔ P c.piece-item.result = subst (λ (b : List ℕ). IsTrue c.have_bytes.result ↔ AllHave c.args.cap.now c.piece-item.result.offset b c.args.operations.now) c.as_slice.ensures c.have_bytes.ensures in
    let wrong : c.have_bytes.result ≡ false = search rules in
    refuted c.have_bytes.result says wrong (λ all. all_at P c.args.operation.now.given c.loop-piece.piece-index c.piece-item.result all low at)

pub loop-piece-preserved : goal.loop-piece-preserved
loop-piece-preserved c =
    let P : Piece → Type 0 = λ (piece : Piece). AllHave c.args.cap.now piece.offset piece.bytes c.args.operations.now in
    let low : c.loop-piece.piece-index < length c.args.operation.now.given = subst (λ (ps : List Piece). c.loop-piece.piece-index < length ps) c.as_slice-piece-items.ensures c.loop-piece-test.true in
    let at : c.piece-item.result ≡ get_or c.args.operation.now.given c.loop-piece.piece-index c.piece-item.result = subst (λ (ps : List Piece). c.piece-item.result ≡ get_or ps c.loop-piece.piece-index c.piece-item.result) c.as_slice-piece-items.ensures c.piece-item.is in
    let says : IsTrue c.have_bytes.result ↔ P c.piece-item.result = subst (λ (b : List ℕ). IsTrue c.have_bytes.result ↔ AllHave c.args.cap.now c.piece-item.result.offset b c.args.operations.now) c.as_slice.ensures c.have_bytes.ensures in
    let yes : c.have_bytes.result ≡ true = search rules in
    first_more P c.args.operation.now.given c.loop-piece.piece-index c.piece-item.result c.loop-piece.invariant low at (says.0 yes)

pub returns : goal.returns
returns c =
    let P : Piece → Type 0 = λ (piece : Piece). AllHave c.args.cap.now piece.offset piece.bytes c.args.operations.now in
    affirmed (first_all P c.args.operation.now.given c.loop-piece.piece-index c.loop-piece.invariant (subst (λ (ps : List Piece). length ps ≤ c.loop-piece.piece-index) c.as_slice-piece-items.ensures (omega (arith, c.loop-piece-test.false))))
