use Rattle.grid_serve.proofs.Begun.{begun_with_its_server}
use Rattle.grid_serve.proofs.served.begin.Goals as goal

pub returns-clause-begun : goal.returns-clause-begun
returns-clause-begun g c =
    begun_with_its_server c.in_ok-serving.serving c.in_ok-server.server c.args.plan.now.own
    c.in_ok-serving.ensures
