use Rattle.std.proofs.Common.{rules}
use Rattle.std.specs.Prelude.{IsErrOf}
use Rattle.local_grid.specs.declared.error.LoopError.TheVariants.{TurnLimit}
use Rattle.carried_operations.proofs.Turned.{finished_turn, offset_stays, past_turn, turn_written}
use Rattle.carried_operations.proofs.downloads.turn.Goals as goal

pub write_ready-requires : goal.write_ready-requires
write_ready-requires g c =
    let calls = g.G.Outside.calls in
    let turned = c.carry_on-turned in
    let moved = c.into_operation-download in
    offset_stays calls c.args.download moved.result c.args.outside.now turned.new.outside c.args.offset
    (finished_turn calls c.args.download c.new-watched.result moved.result turned.new.operation c.args.outside.now turned.new.outside c.new-watched.ensures moved.ensures c.requires.runs c.in-Ok.ensures.ok)
    c.requires.offset_is

pub write_ready-requires-in-Err-TurnLimit : goal.write_ready-requires-in-Err-TurnLimit
write_ready-requires-in-Err-TurnLimit g c =
    let calls = g.G.Outside.calls in
    let turned = c.carry_on-turned in
    let moved = c.into_operation-download in
    let past : IsErrOf turned.result TurnLimit = search rules in
    offset_stays calls c.args.download moved.result c.args.outside.now turned.new.outside c.args.offset
    (past_turn calls c.args.download c.new-watched.result moved.result turned.new.operation c.args.outside.now turned.new.outside c.new-watched.ensures moved.ensures (turned.ensures.turn_limit past))
    c.requires.offset_is

pub returns-in-Ok-clause-ok : goal.returns-in-Ok-clause-ok
returns-in-Ok-clause-ok g c =
    let calls = g.G.Outside.calls in
    let held = g.O.Write.contents in
    let turned = c.carry_on-turned in
    let moved = c.into_operation-download in
    turn_written calls c.args.download moved.result c.args.outside.now turned.new.outside (held c.args.out.now) (held c.write_ready.new.out) c.write_ready.result c.requires.none
    (finished_turn calls c.args.download c.new-watched.result moved.result turned.new.operation c.args.outside.now turned.new.outside c.new-watched.ensures moved.ensures c.requires.runs c.in-Ok.ensures.ok)
    c.write_ready.ensures.ok

pub returns-in-Err-TurnLimit-clause-ok : goal.returns-in-Err-TurnLimit-clause-ok
returns-in-Err-TurnLimit-clause-ok g c =
    let calls = g.G.Outside.calls in
    let held = g.O.Write.contents in
    let turned = c.carry_on-turned in
    let moved = c.into_operation-download in
    let past : IsErrOf turned.result TurnLimit = search rules in
    let ready = c.write_ready-in-Err-TurnLimit in
    turn_written calls c.args.download moved.result c.args.outside.now turned.new.outside (held c.args.out.now) (held ready.new.out) ready.result c.requires.none
    (past_turn calls c.args.download c.new-watched.result moved.result turned.new.operation c.args.outside.now turned.new.outside c.new-watched.ensures moved.ensures (turned.ensures.turn_limit past))
    ready.ensures.ok
