use Rattle.std.proofs.Common.{[], ◌∷◌, ◌++◌, arith, rules, length-append}
use Rattle.local_grid.proofs.CourseLaws.{course_more}
use Rattle.local_grid.specs.OutsideTurns.{LoopState, Turns}
use Rattle.local_grid.proofs.carrying.carry_on.Goals as goal

pub returns-in_err-turn-clause-memory : goal.returns-in_err-turn-clause-memory
returns-in_err-turn-clause-memory g c = λ _.
    let mid : LoopState g.row.O.Denot g.row.G.Denot = record { operation = c.loop.operation; outside = c.loop.outside } in
    (c.loop.counter, c.loop-test.true, mid, c.loop.invariant.0, search rules, c.in_err-turn.ensures.err)

pub loop-preserved : goal.loop-preserved
loop-preserved g c =
    let first : LoopState g.row.O.Denot g.row.G.Denot = record { operation = c.args.operation.now; outside = c.args.outside.now } in
    let mid : LoopState g.row.O.Denot g.row.G.Denot = record { operation = c.loop.operation; outside = c.loop.outside } in
    let last : LoopState g.row.O.Denot g.row.G.Denot = record { operation = c.turn.new.operation; outside = c.turn.new.outside } in
    let often = c.loop.invariant.0 in
    ((often.0 ++ last ∷ [], omega (arith, often.1, length-append often.0 (last ∷ [])), course_more (Turns g.O.Operation.calls g.G.Outside.calls) first mid last often.0 often.2 c.in_ok-turn.ensures.ok), omega (arith, c.loop.invariant.1, c.in_ok-turn.ensures.clock))
