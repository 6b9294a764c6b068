use Rattle.std.proofs.Common.{◌-◌, ◌≤◌, length}
use Rattle.share_gathering.specs.Gathered.{gathered_none}
use Rattle.share_gathering.specs.Shares.{HoldShares}
use Rattle.share_gathering.proofs.shares.begin_shares.Given as goal

abbrev pub invariant-loop-alloc : goal.invariant-loop-alloc
invariant-loop-alloc l = record {
  few : length l.shares.items ≤ l.total;
  held : HoldShares (gathered_none l.geometry) l.shares.items;
}

abbrev pub decreases-loop-alloc : goal.decreases-loop-alloc
decreases-loop-alloc l = l.total - length l.shares.items
