use Rattle.std.proofs.Common.{◌∙◌, refl, rules, subst, sym}
use Rattle.grid_serving.specs.Places.{ClientState}
use Rattle.grid_serving.specs.Turns.{HasTurn}
use Rattle.grid_serving.specs.declared.client.TurnFault.TheVariants as why
use Rattle.grid_serving.proofs.Steps.{breaks_at_once, breaks_on, moves_turn, no_turn, turn_awake, turn_on}
use Rattle.grid_serving.proofs.client.Client.turn.Goals as goal

pub loop-init : goal.loop-init
loop-init g c = (no_turn g.W.Wire.calls g.S.Store.calls c.args.node c.args.now c.args.self.now c.args.server.now, refl)

pub returns-in_err-is_more-clause-err : goal.returns-in_err-is_more-clause-err
returns-in_err-is_more-clause-err g c =
    let broken = breaks_on g.W.Wire.calls g.S.Store.calls c.args.node c.args.now c.in_err-is_more.field-0.0 c.args.self.now.connection c.loop.self.connection c.args.server.now c.loop.server c.step.new.server c.loop.invariant.0.serving c.in_err-is_more.ensures.err in
    search (rules, broken)

pub returns-then-not-is_more-clause-ok : goal.returns-then-not-is_more-clause-ok
returns-then-not-is_more-clause-ok g c =
    subst (λ (x : ClientState g.row.W.Denot). HasTurn g.W.Wire.calls g.S.Store.calls c.args.node c.args.now c.args.self.now c.args.server.now x c.step.new.server) (sym c.set_ready.ensures)
    (turn_awake g.W.Wire.calls g.S.Store.calls c.args.node c.args.now c.args.self.now c.step.new.self c.in_ok-is_more.is_more c.args.server.now c.step.new.server
    (turn_on g.W.Wire.calls g.S.Store.calls c.args.node c.args.now c.args.self.now c.loop.self c.step.new.self c.args.server.now c.loop.server c.step.new.server c.loop.invariant.0 c.in_ok-is_more.ensures.ok))

pub loop-preserved : goal.loop-preserved
loop-preserved g c = (
  subst (λ (x : ClientState g.row.W.Denot). HasTurn g.W.Wire.calls g.S.Store.calls c.args.node c.args.now c.args.self.now c.args.server.now x c.step.new.server) (sym c.set_ready.ensures)
      (turn_awake g.W.Wire.calls g.S.Store.calls c.args.node c.args.now c.args.self.now c.step.new.self c.in_ok-is_more.is_more c.args.server.now c.step.new.server
      (turn_on g.W.Wire.calls g.S.Store.calls c.args.node c.args.now c.args.self.now c.loop.self c.step.new.self c.args.server.now c.loop.server c.step.new.server c.loop.invariant.0 c.in_ok-is_more.ensures.ok)),
  c.step.ensures.desk ∙ c.loop.invariant.1,
)

pub returns-in_err-send-clause-err : goal.returns-in_err-send-clause-err
returns-in_err-send-clause-err g c =
    let fault = c.in_err-send.field-0.0 in
    let broken = breaks_on g.W.Wire.calls g.S.Store.calls c.args.node c.args.now (why.Ended fault) c.args.self.now.connection c.loop.self.connection c.args.server.now c.loop.server c.loop.server c.loop.invariant.0.serving
    (breaks_at_once g.W.Wire.calls g.S.Store.calls c.args.node c.args.now fault c.loop.self.connection c.loop.server) in
    search (rules, broken)

pub returns-clause-ok : goal.returns-clause-ok
returns-clause-ok g c =
    turn_on g.W.Wire.calls g.S.Store.calls c.args.node c.args.now c.args.self.now c.loop.self c.send.new.self c.args.server.now c.loop.server c.loop.server c.loop.invariant.0
    (moves_turn g.W.Wire.calls g.S.Store.calls c.args.node c.args.now c.loop.self c.send.new.self c.loop.server c.in_ok-send.ensures)
