use Rattle.checker.proofs.AheadLemmas.{AreSeen}
use Rattle.checker.proofs.wanted.standing_of.Given as goal

-- those before this one are looked at
abbrev pub invariant-loop-i : goal.invariant-loop-i
invariant-loop-i l = AreSeen l.wanted.items l.i l.is_lost
