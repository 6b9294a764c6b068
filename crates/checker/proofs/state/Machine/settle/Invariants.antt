use Rattle.std.proofs.Common.{◌-◌, length}
use Rattle.checker.proofs.Keeping.{IsSettling}
use Rattle.checker.proofs.state.Machine.settle.Given as goal

-- all that was begun is as it has to be
abbrev pub invariant-loop-self : goal.invariant-loop-self
invariant-loop-self l = IsSettling l.initial.self l.self

abbrev pub decreases-loop-self : goal.decreases-loop-self
decreases-loop-self l = length l.self.offers.items - l.self.begun
