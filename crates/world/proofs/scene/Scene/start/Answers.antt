use Rattle.std.proofs.Common.{refl, length, subst, sym}
use Rattle.world_operations.specs.declared.job.Job.{Job}
use Rattle.world_operations.specs.Follow.{IsNewTask}
use Rattle.world.specs.State.{nodes_of, state_of}
use Rattle.world.specs.Step.{Opens}
use Rattle.world.proofs.Preserving.{preserves_quiet}
use Rattle.world.proofs.scene.Scene.start.Goals as goal

pub open-requires-clause-new : goal.open-requires-clause-new
open-requires-clause-new c = subst (λ (j : Job). IsNewTask (nodes_of (state_of c.args.self.now)) (length c.args.self.now.operations.items) j c.in_ok-task.task) (sym c.in_ok-job.ensures) c.in_ok-task.ensures.new

pub returns-clause-ok : goal.returns-clause-ok
returns-clause-ok c = record {
  first = c.in_ok-task.task;
  begins = c.in_ok-task.ensures.begins;
  opens = subst (λ (j : Job). Opens (state_of c.args.self.now) c.args.node j c.in_ok-task.task (state_of c.open.new.self)) c.in_ok-job.ensures c.in_ok-open.ensures.ok;
}

pub returns-in_err-task-clause-keeps : goal.returns-in_err-task-clause-keeps
returns-in_err-task-clause-keeps c = preserves_quiet _ _ refl refl refl refl

pub returns-in_err-job-clause-keeps : goal.returns-in_err-job-clause-keeps
returns-in_err-job-clause-keeps c = preserves_quiet _ _ refl refl refl refl
