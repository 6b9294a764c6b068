use Rattle.std.proofs.Common.{[], ◌∷◌, rules, subst}
use Rattle.connections.specs.declared.connection.Heard.{Heard}
use Rattle.served_grid.specs.Remotes.{Gave}
use Rattle.served_grid.proofs.Clients.{still_sound}
use Rattle.served_grid.proofs.Giving.{broken_now, gave_both, heard_gave, told}
use Rattle.served_grid.proofs.remote.hear.Goals as goal

pub returns-in_err-message-clause-err : goal.returns-in_err-message-clause-err
returns-in_err-message-clause-err g c =
    let sound = still_sound g.W.Wire.calls c.args.connection.now c.loop.connection [] c.loop.invariant c.requires in
    let broken = broken_now g.W.Wire.calls c.args.connection.now c.loop.connection c.hear.new.self _ c.loop.invariant (c.in_err-message.ensures.fault sound) in
    search (rules, broken)

pub returns-in-Message-clause-ok : goal.returns-in-Message-clause-ok
returns-in-Message-clause-ok g c =
    gave_both g.W.Wire.calls c.args.connection.now c.loop.connection c.hear.new.self (c.in-Message.message ∷ []) c.loop.invariant
    (subst (λ (h : Heard). Gave g.W.Wire.calls c.loop.connection (told h) c.hear.new.self) c.in-Message.is
    (heard_gave g.W.Wire.calls c.loop.connection c.hear.new.self c.in_ok-message.field-0 c.in_ok-message.ensures.heard))

pub returns-in-Nothing-clause-ok : goal.returns-in-Nothing-clause-ok
returns-in-Nothing-clause-ok g c =
    gave_both g.W.Wire.calls c.args.connection.now c.loop.connection c.hear.new.self [] c.loop.invariant
    (subst (λ (h : Heard). Gave g.W.Wire.calls c.loop.connection (told h) c.hear.new.self) c.in-Nothing.is
    (heard_gave g.W.Wire.calls c.loop.connection c.hear.new.self c.in_ok-message.field-0 c.in_ok-message.ensures.heard))

pub loop-preserved : goal.loop-preserved
loop-preserved g c =
    gave_both g.W.Wire.calls c.args.connection.now c.loop.connection c.hear.new.self [] c.loop.invariant
    (subst (λ (h : Heard). Gave g.W.Wire.calls c.loop.connection (told h) c.hear.new.self) c.in-Bytes.is
    (heard_gave g.W.Wire.calls c.loop.connection c.hear.new.self c.in_ok-message.field-0 c.in_ok-message.ensures.heard))
