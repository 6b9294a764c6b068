use Rattle.std.proofs.Common.{sym}
use Rattle.request_record.proofs.QueueLaws.{unqueued}
use Rattle.request_record.proofs.positions.unqueue.Goals as goal

pub returns-else-may_be_again : goal.returns-else-may_be_again
returns-else-may_be_again c =
    sym (unqueued c.args.entries.now c.args.position c.args.sent c.args.outgoing.now.items c.if-sent-position.false (c.may_be_again.ensures c.if-may_be_again.false) c.requires)
