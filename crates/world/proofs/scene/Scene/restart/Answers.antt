use Rattle.world.specs.State.{state_of}
use Rattle.world.proofs.Moving.{restart_keeps, restarts}
use Rattle.world.proofs.scene.Scene.restart.Goals as goal

pub returns-clause-step : goal.returns-clause-step
returns-clause-step c =
    restarts (state_of c.args.self.now) c.args.node c.from.result c.restart_server.new.servers.items c.forget_all.new.operations.items c.from.ensures c.restart_server.ensures c.forget_all.ensures

pub returns-clause-keeps : goal.returns-clause-keeps
returns-clause-keeps c =
    restart_keeps (state_of c.args.self.now) c.args.node c.from.result c.restart_server.new.servers.items c.forget_all.new.operations.items c.restart_server.ensures c.forget_all.ensures
