use Rattle.std.proofs.Common.{◌≡◌, ◌+◌, ◌∙◌, drop, inr, ap, sym}
use Rattle.wire.specs.declared.message.Body.{Body}
use Rattle.wire.specs.declared.message.Body.TheVariants.{Data}
use Rattle.request_record.specs.declared.requests.Outcome.TheVariants.{Answered, Lost}
use Rattle.request_record.specs.Record.{is_outstanding}
use Rattle.checker.proofs.Keeping.{asks_trans, losing_first, losing_more, losing_none, losing_settled}
use Rattle.checker.proofs.state.Machine.lose.Goals as goal

pub loop-position-init : goal.loop-position-init
loop-position-init c = losing_none c.args.self.now c.args.positions.now c.requires.book c.requires.lost c.requires.safe

pub take_in-requires-clause-settled : goal.take_in-requires-clause-settled
take_in-requires-clause-settled c r e = ap is_outstanding (losing_settled c.args.self.now c.loop-position.self c.args.positions.now c.loop-position.position-index c.loop-position.invariant c.loop-position-test.true r e)

not_lost : (body : Body) → Lost ≡ Answered body → ⊥
not_lost body e = cc

pub take_in-requires-clause-brought : goal.take_in-requires-clause-brought
take_in-requires-clause-brought c bytes has =
    not_lost (Data bytes)
    (sym (losing_settled c.args.self.now c.loop-position.self c.args.positions.now c.loop-position.position-index c.loop-position.invariant c.loop-position-test.true has.request has.there) ∙ has.answer)

pub loop-position-preserved : goal.loop-position-preserved
loop-position-preserved c =
    losing_more c.args.self.now c.loop-position.self c.take_in.new.self c.args.positions.now c.loop-position.position-index c.loop-position.invariant c.loop-position-test.true
    (c.in_ok-take_in.ensures.book (drop (c.loop-position.position-index + 1) c.args.positions.now)
    (losing_first c.args.self.now c.loop-position.self c.args.positions.now c.loop-position.position-index c.loop-position.invariant c.loop-position-test.true)
    (inr (losing_settled c.args.self.now c.loop-position.self c.args.positions.now c.loop-position.position-index c.loop-position.invariant c.loop-position-test.true)))
    c.in_ok-take_in.ensures.awaited c.in_ok-take_in.ensures.asks c.in_ok-take_in.ensures.safe

pub returns-in_err-take_in-clause-asks : goal.returns-in_err-take_in-clause-asks
returns-in_err-take_in-clause-asks c = asks_trans c.args.self.now c.loop-position.self c.take_in.new.self c.loop-position.invariant.asks c.take_in.ensures.asks
