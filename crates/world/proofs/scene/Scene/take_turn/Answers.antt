use Rattle.std.proofs.Common.{refl}
use Rattle.world.proofs.Preserving.{preserves_quiet}
use Rattle.world.proofs.scene.Scene.take_turn.Goals as goal

pub returns-then-not-is_liar-clause-keeps : goal.returns-then-not-is_liar-clause-keeps
returns-then-not-is_liar-clause-keeps c c' = preserves_quiet _ _ refl refl refl refl

pub returns-in_default-clause-keeps : goal.returns-in_default-clause-keeps
returns-in_default-clause-keeps c c' = preserves_quiet _ _ refl refl refl refl

pub returns-then-not-is_node-clause-keeps : goal.returns-then-not-is_node-clause-keeps
returns-then-not-is_node-clause-keeps c c' = preserves_quiet _ _ refl refl refl refl
