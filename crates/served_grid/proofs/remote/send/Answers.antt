use Rattle.std.proofs.Common.{[], rules}
use Rattle.served_grid.proofs.Clients.{still_sound}
use Rattle.served_grid.proofs.Giving.{broken_now, gave_both, sent_gave}
use Rattle.served_grid.proofs.remote.send.Goals as goal

pub returns-in_err-send-clause-err : goal.returns-in_err-send-clause-err
returns-in_err-send-clause-err g c =
    let sound = still_sound g.W.Wire.calls c.args.connection.now c.loop.connection [] c.loop.invariant c.requires in
    let broken = broken_now g.W.Wire.calls c.args.connection.now c.loop.connection c.send.new.self _ c.loop.invariant (c.in_err-send.ensures.fault sound) in
    search (rules, broken)

pub returns-then-eq-clause-ok : goal.returns-then-eq-clause-ok
returns-then-eq-clause-ok g c =
    gave_both g.W.Wire.calls c.args.connection.now c.loop.connection c.send.new.self [] c.loop.invariant
    (sent_gave g.W.Wire.calls c.loop.connection c.send.new.self c.in_ok-send.field-0 c.in_ok-send.ensures.sent)

pub loop-preserved : goal.loop-preserved
loop-preserved g c =
    gave_both g.W.Wire.calls c.args.connection.now c.loop.connection c.send.new.self [] c.loop.invariant
    (sent_gave g.W.Wire.calls c.loop.connection c.send.new.self c.in_ok-send.field-0 c.in_ok-send.ensures.sent)
