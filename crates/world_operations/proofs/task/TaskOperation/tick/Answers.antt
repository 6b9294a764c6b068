use Rattle.std.proofs.Common.{subst, sym}
use Rattle.request_record.specs.Follow.{Nothing}
use Rattle.world_operations.specs.declared.task.Task.{Task}
use Rattle.world_operations.specs.declared.task.Task.TheVariants.{Uploading, Downloading, Checking}
use Rattle.world_operations.specs.Follow.{GoesOn}
use Rattle.world_operations.proofs.TaskMoves.{check_ticked, download_ticked, goes_nowhere, upload_ticked}
use Rattle.world_operations.proofs.task.TaskOperation.tick.Goals as goal

pub returns-in-Uploading-clause-goes : goal.returns-in-Uploading-clause-goes
returns-in-Uploading-clause-goes c =
    subst (λ (t : Task). GoesOn Nothing t (Uploading c.tick.new.self)) (sym c.in-Uploading.is)
    (upload_ticked c.tick.result c.args.now c.in-Uploading.upload c.tick.new.self c.tick.ensures.ok c.tick.ensures.stops c.tick.ensures.pieces)

pub returns-in-Downloading-clause-goes : goal.returns-in-Downloading-clause-goes
returns-in-Downloading-clause-goes c =
    subst (λ (t : Task). GoesOn Nothing t (Downloading c.tick-in-Downloading.new.self)) (sym c.in-Downloading.is)
    (download_ticked c.tick-in-Downloading.result c.args.now c.in-Downloading.download c.tick-in-Downloading.new.self c.tick-in-Downloading.ensures.ok c.tick-in-Downloading.ensures.stops)

pub returns-in-Checking-clause-goes : goal.returns-in-Checking-clause-goes
returns-in-Checking-clause-goes c =
    subst (λ (t : Task). GoesOn Nothing t (Checking c.tick-in-Checking.new.self)) (sym c.in-Checking.is)
    (check_ticked c.tick-in-Checking.result c.args.now c.in-Checking.check c.tick-in-Checking.new.self c.tick-in-Checking.ensures.ok c.tick-in-Checking.ensures.stops)

pub returns-in-Gone-clause-goes : goal.returns-in-Gone-clause-goes
returns-in-Gone-clause-goes c = goes_nowhere Nothing c.args.self.now
