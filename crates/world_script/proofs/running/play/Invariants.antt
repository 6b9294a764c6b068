use Rattle.std.proofs.Common.{◌≡◌, false}
use Rattle.world_script.proofs.Plays.{IsMaking, IsPlaying}
use Rattle.world_script.proofs.running.play.Given as goal

abbrev pub invariant-loop-command : goal.invariant-loop-command
invariant-loop-command g l = record {
  playing : IsPlaying l.script l.fn.world.state l.command-index l.events l.world.state l.delivered;
  going : l.world.stopped ≡ false;
}

abbrev pub invariant-loop : goal.invariant-loop
invariant-loop g l = record {
  making : IsMaking l.script l.fn.world.state l.command-index l.plan l.end l.counter l.events l.world.state l.delivered;
  going : l.world.stopped ≡ false;
}
