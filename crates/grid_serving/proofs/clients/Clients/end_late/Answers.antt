use Rattle.std.proofs.Common.{◌+◌, arith}
use Rattle.grid_serving.specs.Places.{is_late}
use Rattle.grid_serving.proofs.InTurn.{one_more_gone}
use Rattle.grid_serving.proofs.clients.Clients.end_late.Goals as goal

pub loop-node-preserved : goal.loop-node-preserved
loop-node-preserved g c =
    one_more_gone g.S.Store.calls (is_late c.args.now) c.loop-node.node (c.loop-node.node + 1) c.args.self.now c.loop-node.self c.end_if_late.new.self c.args.server.now c.loop-node.server c.end_if_late.new.server (omega arith) (omega (arith, c.loop-node-test.true))
    c.loop-node.invariant c.end_if_late.ensures
