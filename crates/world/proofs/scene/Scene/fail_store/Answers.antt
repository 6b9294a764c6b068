use Rattle.world.specs.State.{state_of}
use Rattle.world.proofs.Moving.{fail_keeps, fails}
use Rattle.world.proofs.scene.Scene.fail_store.Goals as goal

pub returns-clause-step : goal.returns-clause-step
returns-clause-step c = fails (state_of c.args.self.now) c.args.node c.from.result c.fail_server.new.servers.items c.from.ensures c.fail_server.ensures

pub returns-clause-keeps : goal.returns-clause-keeps
returns-clause-keeps c = fail_keeps (state_of c.args.self.now) c.from.result c.fail_server.new.servers.items c.fail_server.ensures
