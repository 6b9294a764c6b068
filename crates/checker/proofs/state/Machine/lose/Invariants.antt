use Rattle.std.proofs.Common.{drop}
use Rattle.checker.proofs.Keeping.{IsLosing}
use Rattle.checker.proofs.state.Machine.lose.Given as goal

-- those before this one are taken in
abbrev pub invariant-loop-position : goal.invariant-loop-position
invariant-loop-position l = IsLosing l.initial.self l.self l.positions (drop l.position-index l.positions)
