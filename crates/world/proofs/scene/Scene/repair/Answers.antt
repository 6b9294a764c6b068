use Rattle.std.proofs.Common.{refl}
use Rattle.world.proofs.Preserving.{preserves_quiet}
use Rattle.world.proofs.scene.Scene.repair.Goals as goal

pub returns-clause-ok : goal.returns-clause-ok
returns-clause-ok c = record { job = c.in_ok-job.job; first = c.in_ok-job.task; begins = c.in_ok-job.ensures.begins; opens = c.in_ok-open.ensures.ok }

pub returns-in_err-job-clause-keeps : goal.returns-in_err-job-clause-keeps
returns-in_err-job-clause-keeps c = preserves_quiet _ _ refl refl refl refl
