use Rattle.std.proofs.Common.{◌≡◌, ◌++◌, drop}
use Rattle.upload_core.specs.Acknowledged.{acked_held}
use Rattle.upload_core.proofs.acknowledged.push_held.Given as goal

-- the pairs of the shares so far, and those that the rest gives
abbrev pub invariant-loop-share : goal.invariant-loop-share
invariant-loop-share l =
    l.pairs.items ++ acked_held l.goal l.server (drop l.share-index l.held) ≡ l.initial.pairs.items ++ acked_held l.goal l.server l.held
