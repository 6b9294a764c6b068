use Rattle.grid_serve.proofs.Begun.{was_served}
use Rattle.grid_serve.proofs.served.serve.Goals as goal

pub returns : goal.returns
returns g c =
    was_served c.args.serve.now c.in_ok-served.served c.run.new.served c.run.result
    c.in_ok-served.ensures c.run.ensures.ok
