use Rattle.std.proofs.Common.{◌*◌, drop, take}
use Rattle.share_gathering.specs.Shares.{HasBlocksMore}
use Rattle.share_gathering.proofs.ShareBlocks.{HaveSoFar}
use Rattle.share_gathering.proofs.shares.add_rows.Given as goal

abbrev pub invariant-loop-lane : goal.invariant-loop-lane
invariant-loop-lane l = HaveSoFar (HasBlocksMore l.group.count l.size (λ i. take l.group.row (drop (i * l.group.row) l.lanes))) l.fn.shares l.shares l.lane
