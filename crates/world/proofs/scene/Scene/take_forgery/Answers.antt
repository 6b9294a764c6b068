use Rattle.std.proofs.Common.{refl}
use Rattle.world.proofs.Preserving.{preserves_quiet}
use Rattle.world.proofs.scene.Scene.take_forgery.Goals as goal

pub returns-then-not-is_liar-clause-keeps : goal.returns-then-not-is_liar-clause-keeps
returns-then-not-is_liar-clause-keeps c = preserves_quiet _ _ refl refl refl refl

pub returns-in_err-body-clause-keeps : goal.returns-in_err-body-clause-keeps
returns-in_err-body-clause-keeps c = preserves_quiet _ _ refl refl refl refl
