use Rattle.world.proofs.scene.Scene.begin_repair.Goals as goal

pub returns-in_default-clause-refused : goal.returns-in_default-clause-refused
returns-in_default-clause-refused c = λ refused may. c.in_default.ensures.none may.0 may.1
