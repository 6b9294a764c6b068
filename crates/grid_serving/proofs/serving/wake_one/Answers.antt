use Rattle.grid_serving.proofs.Looping.{one_woken}
use Rattle.grid_serving.proofs.serving.wake_one.Goals as goal

pub returns-in-Ok : goal.returns-in-Ok
returns-in-Ok g c = one_woken c.in-Ok.node c.args.clients.now c.wake.new.self c.wake.ensures
