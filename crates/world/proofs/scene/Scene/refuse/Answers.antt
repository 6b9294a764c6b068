use Rattle.world.specs.State.{state_of}
use Rattle.world.proofs.Moving.{refuse_keeps, refused}
use Rattle.world.proofs.scene.Scene.refuse.Goals as goal

pub returns-clause-step : goal.returns-clause-step
returns-clause-step c = refused (state_of c.args.self.now) c.args.number c.set_life.new.operations.items c.requires c.set_life.ensures

pub returns-clause-keeps : goal.returns-clause-keeps
returns-clause-keeps c = refuse_keeps (state_of c.args.self.now) c.args.number c.set_life.new.operations.items c.requires c.set_life.ensures
