use Rattle.std.proofs.Common.{arith}
use Rattle.sha2_lanes.specs.Lanes.{text}
use Rattle.sha2_lanes.proofs.SideBySide.{TakesRest, become}
use Rattle.sha2_lanes.proofs.side_by_side.add_rests.Goals as goal

pub returns : goal.returns
returns c = λ j m below held.
    let x = become (TakesRest (text c.args.pieces.now) c.args.start) c.args.streams.now _ c.loop-j.j j held.stream c.loop-j.invariant (omega arith) below (omega arith) held.there in
    record { stream = x.0; there = x.1; holds = x.2 m held.holds }
