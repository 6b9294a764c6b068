use Rattle.download_shares.specs.HoldingMoves.{Tells}
use Rattle.download_shares.proofs.holdings.tell_all.Given as goal

-- those before this one are told
abbrev pub invariant-loop-share : goal.invariant-loop-share
invariant-loop-share l = Tells l.server l.held l.share-index l.initial.table l.table
