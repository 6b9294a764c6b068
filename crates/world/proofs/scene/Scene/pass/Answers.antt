use Rattle.std.proofs.Common.{refl}
use Rattle.world.proofs.Preserving.{preserves_quiet}
use Rattle.world.proofs.scene.Scene.pass.Goals as goal

pub returns-clause-keeps : goal.returns-clause-keeps
returns-clause-keeps c = preserves_quiet _ _ refl refl refl refl
