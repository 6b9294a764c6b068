use Rattle.std.proofs.Common.{◌≡◌, ◌++◌, drop, map}
use Rattle.checker.specs.Found.{found_of}
use Rattle.checker.proofs.report.push_verdicts.Given as goal

-- the verdicts so far, and those that the rest gives
abbrev pub invariant-loop-offer : goal.invariant-loop-offer
invariant-loop-offer l = l.verdicts.items ++ map found_of (drop l.offer-index l.offers) ≡ l.initial.verdicts.items ++ map found_of l.offers
