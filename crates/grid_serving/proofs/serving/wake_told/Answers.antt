use Rattle.grid_serving.proofs.Looping.{more_woken, none_woken}
use Rattle.grid_serving.proofs.serving.wake_told.Goals as goal

pub loop-event-init : goal.loop-event-init
loop-event-init g c = none_woken c.args.clients.now

pub loop-event-preserved : goal.loop-event-preserved
loop-event-preserved g c = more_woken c.args.clients.now c.loop-event.clients c.wake_one-comes.new.clients c.loop-event.invariant c.wake_one-comes.ensures
