use Rattle.std.proofs.Common.{◌+◌, ◌∙◌, arith, rules}
use Rattle.grid_serving.proofs.InTurn.{fails_here, one_more}
use Rattle.grid_serving.proofs.clients.Clients.serve_ready.Goals as goal

pub loop-node-preserved : goal.loop-node-preserved
loop-node-preserved g c = (
  one_more g.W.Wire.calls g.S.Store.calls c.args.now c.loop-node.node (c.loop-node.node + 1) c.args.self.now c.loop-node.self c.serve_if_ready.new.self c.args.server.now c.loop-node.server c.serve_if_ready.new.server (omega arith) (omega (arith, c.loop-node-test.true))
      c.loop-node.invariant.0 c.in_ok-is_more.ensures.ok,
  c.serve_if_ready.ensures.desk ∙ c.loop-node.invariant.1,
)

pub returns-in_err-is_more-clause-err : goal.returns-in_err-is_more-clause-err
returns-in_err-is_more-clause-err g c =
    let fails = fails_here g.W.Wire.calls g.S.Store.calls c.args.now c.loop-node.node c.args.self.now c.loop-node.self c.serve_if_ready.new.self c.args.server.now c.loop-node.server c.serve_if_ready.new.server (omega (arith, c.loop-node-test.true))
    c.loop-node.invariant.0 c.in_err-is_more.ensures.err in
    search (rules, fails)
