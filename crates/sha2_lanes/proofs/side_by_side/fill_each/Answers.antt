use Rattle.std.proofs.Common.{◌∙◌, arith, get_or}
use Rattle.std.proofs.Math.ListN.{length-set}
use Rattle.std.proofs.lemmas.Option.{slice_get-get_or}
use Rattle.sha2_lanes.specs.Lanes.{text}
use Rattle.sha2_lanes.proofs.SideBySide.{IsFilled, become, filled_more, within_more}
use Rattle.sha2_lanes.proofs.side_by_side.fill_each.Goals as goal

pub loop-j-preserved : goal.loop-j-preserved
loop-j-preserved c =
    let l = c.loop-j in
    let piece = text c.args.pieces.now in
    record {
      long = length-set l.starts l.j c.fill-start.result ∙ l.invariant.long;
      within = within_more piece l.starts l.j c.fill-start.result l.invariant.long (omega arith) l.invariant.within c.fill-start.ensures.within;
      filled = filled_more piece l.starts c.args.streams.now l.streams l.j c.fill-start.result _ _ l.invariant.long (omega arith) l.invariant.filled
          (slice_get-get_or l.streams l.j _ (omega arith)) c.fill-start.ensures.given c.fill-start.ensures.edge;
    }

pub returns-clause-given : goal.returns-clause-given
returns-clause-given c = λ j m below held.
    let x = become (λ k. IsFilled (get_or c.loop-j.starts k 0) (text c.args.pieces.now k)) c.args.streams.now _ c.loop-j.j j held.stream c.loop-j.invariant.filled (omega arith) below (omega arith) held.there in
    record { stream = x.0; there = x.1; holds = x.2.given m held.holds }

pub returns-clause-edges : goal.returns-clause-edges
returns-clause-edges c = λ j m below held.
    let x = become (λ k. IsFilled (get_or c.loop-j.starts k 0) (text c.args.pieces.now k)) c.args.streams.now _ c.loop-j.j j held.stream c.loop-j.invariant.filled (omega arith) below (omega arith) held.there in
    x.2.edge m held.holds
