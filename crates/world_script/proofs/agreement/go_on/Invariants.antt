use Rattle.world_script.proofs.Agreeing.{AreAlike}
use Rattle.world_script.proofs.agreement.go_on.Given as goal

abbrev pub invariant-loop-offset : goal.invariant-loop-offset
invariant-loop-offset l = AreAlike l.bytes l.from l.others l.offset
