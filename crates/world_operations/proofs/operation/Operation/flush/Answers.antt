use Rattle.request_record.specs.Follow.{Nothing}
use Rattle.world_operations.proofs.Frames.{sends_none, sends_on}
use Rattle.lemmas.proofs.Results.{on_ok}
use Rattle.world_operations.proofs.Sending.{flushed}
use Rattle.world_operations.proofs.operation.Operation.flush.Goals as goal

pub returns-clause-ok : goal.returns-clause-ok
returns-clause-ok c =
    on_ok c.send_all.result _ _
    (flushed c.args.self.now c.hand_out.new.task c.send_all.new.task c.hand_out.new.given c.args.sent.now.items c.send_all.new.sent.items c.in_ok-hand_out.ensures.all) c.send_all.ensures.all

pub returns-clause-some : goal.returns-clause-some
returns-clause-some c =
    let old = c.args.self.now in
    sends_on Nothing old.node old.task c.hand_out.new.task c.send_all.new.task c.args.sent.now.items c.args.sent.now.items c.send_all.new.sent.items
    (sends_none Nothing old.node old.task c.hand_out.new.task c.args.sent.now.items c.in_ok-hand_out.ensures.goes) c.send_all.ensures.some

pub returns-clause-given : goal.returns-clause-given
returns-clause-given c = λ all p among. c.send_all.ensures.some.goes.given p (c.in_ok-hand_out.ensures.given all p among)
