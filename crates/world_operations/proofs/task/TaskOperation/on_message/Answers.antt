use Rattle.std.proofs.Common.{subst, sym}
use Rattle.request_record.specs.Follow.{IsSaid}
use Rattle.world_operations.specs.declared.task.Task.{Task}
use Rattle.world_operations.specs.declared.task.Task.TheVariants.{Uploading, Downloading, Checking}
use Rattle.world_operations.specs.Follow.{GoesOn}
use Rattle.world_operations.specs.Tasks.{requests_of}
use Rattle.world_operations.proofs.TaskMoves.{check_heard, download_advanced, goes_nowhere, upload_heard}
use Rattle.world_operations.proofs.task.TaskOperation.on_message.Goals as goal

pub returns-in-Uploading-clause-goes : goal.returns-in-Uploading-clause-goes
returns-in-Uploading-clause-goes c =
    subst (λ (t : Task). GoesOn (IsSaid c.args.from c.args.message (requests_of t).session) t (Uploading c.on_message.new.self)) (sym c.in-Uploading.is)
    (upload_heard c.on_message.result c.args.from c.args.now c.args.message c.in-Uploading.upload c.on_message.new.self c.on_message.ensures.ok c.on_message.ensures.stops c.on_message.ensures.ended c.on_message.ensures.pieces)

pub returns-in-Downloading-clause-goes : goal.returns-in-Downloading-clause-goes
returns-in-Downloading-clause-goes c =
    subst (λ (t : Task). GoesOn (IsSaid c.args.from c.args.message (requests_of t).session) t (Downloading c.on_message-in-Downloading.new.self)) (sym c.in-Downloading.is)
    (download_advanced c.args.from c.args.now c.args.message c.in-Downloading.download c.on_message-in-Downloading.new.self c.on_message-in-Downloading.ensures.advances)

pub returns-in-Checking-clause-goes : goal.returns-in-Checking-clause-goes
returns-in-Checking-clause-goes c =
    subst (λ (t : Task). GoesOn (IsSaid c.args.from c.args.message (requests_of t).session) t (Checking c.on_message-in-Checking.new.self)) (sym c.in-Checking.is)
    (check_heard c.on_message-in-Checking.result c.args.from c.args.now c.args.message c.in-Checking.check c.on_message-in-Checking.new.self c.on_message-in-Checking.ensures.ok c.on_message-in-Checking.ensures.stops)

pub returns-in-Gone-clause-goes : goal.returns-in-Gone-clause-goes
returns-in-Gone-clause-goes c = goes_nowhere (IsSaid c.args.from c.args.message (requests_of c.args.self.now).session) c.args.self.now
