use Rattle.world.specs.State.{state_of}
use Rattle.world.proofs.Moving.{say_keeps}
use Rattle.world.proofs.scene.Scene.say.Goals as goal

pub returns-clause-keeps : goal.returns-clause-keeps
returns-clause-keeps c = say_keeps (state_of c.args.self.now) c.args.from c.args.to c.args.body c.push_sent.new.all.items c.push_sent.result c.requires c.push_sent.ensures.ok c.push_sent.ensures.err
