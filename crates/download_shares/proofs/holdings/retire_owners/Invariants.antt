use Rattle.std.proofs.Common.{take}
use Rattle.download_shares.specs.HoldingMoves.{IsAmong, RetiresAll}
use Rattle.download_shares.proofs.holdings.retire_owners.Given as goal

-- those of the positions before this one are retired
abbrev pub invariant-loop-position : goal.invariant-loop-position
invariant-loop-position l = RetiresAll (IsAmong l.servers l.owners (take l.position-index l.positions)) l.initial.table l.table
