use Rattle.std.proofs.Common.{take}
use Rattle.checker.specs.Book.{ArePushed}
use Rattle.checker.proofs.steps.push_offers.Given as goal

-- those before this one are added
abbrev pub invariant-loop-share : goal.invariant-loop-share
invariant-loop-share l = ArePushed l.keeps l.total l.server (take l.share-index l.held) l.initial.offers.items l.offers.items
