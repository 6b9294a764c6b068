use Rattle.std.proofs.Common.{refl}
use Rattle.world.specs.State.{state_of}
use Rattle.world.proofs.Preserving.{preserves_quiet}
use Rattle.world.proofs.scene.Scene.hear.Goals as goal

pub returns-clause-keeps : goal.returns-clause-keeps
returns-clause-keeps c = preserves_quiet (state_of c.args.self.now) (record (state_of c.args.self.now) { heard = c.hear_at.new.heard.items }) refl refl refl c.hear_at.ensures.len

pub returns-then-liar-len-clause-keeps : goal.returns-then-liar-len-clause-keeps
returns-then-liar-len-clause-keeps c = preserves_quiet _ _ refl refl refl refl

pub returns-in_err-sent-clause-keeps : goal.returns-in_err-sent-clause-keeps
returns-in_err-sent-clause-keeps c = preserves_quiet _ _ refl refl refl refl
