use Rattle.std.proofs.Common.{refl}
use Rattle.world.proofs.Preserving.{preserves_quiet}
use Rattle.world.proofs.scene.Scene.take_refusal.Goals as goal

pub returns-then-not-is_running-clause-keeps : goal.returns-then-not-is_running-clause-keeps
returns-then-not-is_running-clause-keeps c = preserves_quiet _ _ refl refl refl refl
