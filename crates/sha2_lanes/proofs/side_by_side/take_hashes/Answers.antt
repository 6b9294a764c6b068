use Rattle.std.proofs.Common.{arith}
use Rattle.sha2_lanes.proofs.SideBySide.{TakesHash, become}
use Rattle.sha2_lanes.proofs.side_by_side.take_hashes.Goals as goal

pub returns : goal.returns
returns c = λ j s m groups below there held edge long hash.
    let x = become (TakesHash c.args.hashes.now c.args.count) c.args.streams.now _ c.loop-j.j j s c.loop-j.invariant (omega arith) below (omega arith) there in
    record { stream = x.0; there = x.1; holds = x.2 m groups held edge long hash }
