use Rattle.std.proofs.Common.{◌≡◌, ◌++◌, ◌∙◌, List, ℕ, ap, sym, drop}
use Rattle.std.proofs.lemmas.Bool.{eqb-true}
use Rattle.std.proofs.lemmas.List.{nil_from_length, take-append-drop}
use Rattle.local_grid.proofs.PassingLaws.{sent_more, sent_none, sent_whole}
use Rattle.local_grid.proofs.passing.carry.Goals as goal

pub pieces-init : goal.pieces-init
pieces-init g c = sent_none g.E.Ends.calls c.args.way c.args.ends.now c.args.frame.now c.args.came.now.items

pub pieces-preserved : goal.pieces-preserved
pieces-preserved g c =
    let step = c.in_ok-carry_piece.ensures.ok in
    let rest = c.pieces.rest.now in
    let n = c.min.result in
    let piece = c.split_at.result.0.now in
    let cut : rest ≡ piece ++ c.split_at.result.1.now = sym (take-append-drop n rest) ∙ ap (λ (l : List ℕ). l ++ drop n rest) (sym c.split_at.ensures.front)
    ∙ ap (λ (l : List ℕ). piece ++ l) (sym c.split_at.ensures.back) in
    sent_more g.E.Ends.calls c.args.way c.args.ends.now c.pieces.ends c.carry_piece.new.ends c.args.frame.now rest piece c.split_at.result.1.now c.args.came.now.items c.pieces.came.items c.carry_piece.new.came.items step.0
    c.pieces.invariant cut step.1 step.2

pub returns-clause-ok : goal.returns-clause-ok
returns-clause-ok g c = sent_whole g.E.Ends.calls c.args.way c.args.ends.now c.pieces.ends c.args.frame.now c.pieces.rest.now c.args.came.now.items c.pieces.came.items
    (nil_from_length c.pieces.rest.now (eqb-true _ 0 (sym c.is_empty.ensures ∙ c.pieces-test.false))) c.pieces.invariant
