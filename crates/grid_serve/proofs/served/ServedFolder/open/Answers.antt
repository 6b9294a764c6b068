use Rattle.connections.specs.Greetings.{greeting_of}
use Rattle.grid_serve.proofs.Begun.{begun_with_same}
use Rattle.grid_serve.proofs.served.ServedFolder.open.Goals as goal

pub returns : goal.returns
returns g c = record {
  mark = c.in_ok-plan.plan.mark;
  servers = c.in_ok-plan.ensures.mark;
  said = c.in_ok-plan.ensures.said;
  opened = c.in_ok-serving.ensures.opened;
  begun = begun_with_same c.in_ok-serving.serving c.in_ok-plan.plan.own
      (greeting_of c.in_ok-plan.plan.mark) c.in_ok-plan.ensures.greeting
      c.in_ok-serving.ensures.begun;
  address = c.in_ok-plan.plan.address;
  spelled = c.in_ok-plan.ensures.address;
  local = c.in_ok-plan.ensures.local;
}
