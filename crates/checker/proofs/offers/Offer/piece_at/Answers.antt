use Rattle.std.proofs.Common.{◌≡◌, ◌∙◌, ap, sym, arith, inl, inr}
use Rattle.std.specs.Prelude.{slice_get}
use Rattle.std.proofs.lemmas.Bool.{cases_lt}
use Rattle.std.proofs.lemmas.Option.{same_Some, slice_get_within}
use Rattle.lemmas.proofs.Positions.{got}
use Rattle.checker.specs.declared.wanted.Wanted.{Wanted}
use Rattle.checker.proofs.offers.Offer.piece_at.Goals as goal

pub index-requires : goal.index-requires
index-requires c = omega (arith, c.loop-i-test.true, c.len-i-end.ensures)

pub returns-then-index-position-clause-piece : goal.returns-then-index-position-clause-piece
returns-then-index-position-clause-piece c =
    let q = c.args.self.now.wanted in
    (c.index.result.now, got q.items c.loop-i.i c.index.result.now (omega (arith, c.loop-i-test.true, c.len-i-end.ensures, q.ok.0)) c.index.ensures, c.if-index-position.true)

pub loop-i-preserved : goal.loop-i-preserved
loop-i-preserved c k w lt e here =
    let q = c.args.self.now.wanted in
    elim (cases_lt k c.loop-i.i) [
      | inl before ↦ c.loop-i.invariant k w before e here
      | inr le ↦
          let at : k ≡ c.loop-i.i = omega (arith, lt, le) in
          let same : c.index.result.now ≡ w = same_Some c.index.result.now w (sym (got q.items c.loop-i.i c.index.result.now (omega (arith, c.loop-i-test.true, c.len-i-end.ensures, q.ok.0)) c.index.ensures) ∙ ap (slice_get q.items) (sym at) ∙ e) in
          c.if-index-position.false (ap (λ (x : Wanted). x.position) same ∙ here)
    ]

pub returns-clause-none : goal.returns-clause-none
returns-clause-none c r i w stage e here =
    let q = c.args.self.now.wanted in
    c.loop-i.invariant i w (omega (arith, slice_get_within q.items i w e, c.loop-i-test.false, c.len-i-end.ensures, q.ok.0)) e here
