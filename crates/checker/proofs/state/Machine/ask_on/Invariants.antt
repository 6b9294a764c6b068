use Rattle.std.proofs.Common.{◌-◌, max, length}
use Rattle.checker.proofs.AskingMoves.{IsAskingOn, wanted_at}
use Rattle.checker.proofs.state.Machine.ask_on.Given as goal

-- more of it is asked for so far
abbrev pub invariant-loop-span : goal.invariant-loop-span
invariant-loop-span l = IsAskingOn l.initial.self l.self l.offer l.reading

abbrev pub decreases-loop-span : goal.decreases-loop-span
decreases-loop-span l = max 1 l.self.ahead - length (wanted_at l.self.offers.items l.offer)
