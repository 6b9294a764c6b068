use Rattle.std.proofs.Common.{length}
use Rattle.checker.proofs.HearingLemmas.{IsOn}
use Rattle.checker.proofs.offers.Offer.read_on.Given as goal

-- it is read so far
abbrev pub invariant-loop-self : goal.invariant-loop-self
invariant-loop-self l = IsOn l.cap l.waits l.fn.self l.reading l.self l.reached

abbrev pub decreases-loop-self : goal.decreases-loop-self
decreases-loop-self l = length l.self.wanted.items
