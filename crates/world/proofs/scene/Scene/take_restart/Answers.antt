use Rattle.std.proofs.Common.{refl}
use Rattle.world.proofs.Preserving.{preserves_quiet}
use Rattle.world.proofs.scene.Scene.take_restart.Goals as goal

pub returns-then-from-len-clause-keeps : goal.returns-then-from-len-clause-keeps
returns-then-from-len-clause-keeps c = preserves_quiet _ _ refl refl refl refl
