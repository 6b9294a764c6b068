use Rattle.std.proofs.Common.{[], rules, subst}
use Rattle.served_grid.specs.Heard.{messages_of}
use Rattle.served_grid.specs.Remotes.{Gave}
use Rattle.served_grid.specs.declared.remote.Came.{Came}
use Rattle.served_grid.proofs.Clients.{still_sound}
use Rattle.served_grid.proofs.Giving.{broken_after, gave_both}
use Rattle.served_grid.proofs.remote.carry.Goals as goal

pub hear-requires : goal.hear-requires
hear-requires g c = still_sound g.W.Wire.calls c.args.connection.now c.send.new.connection [] c.in_ok-all_sent.ensures.ok c.requires

pub returns-in_err-came-clause-err : goal.returns-in_err-came-clause-err
returns-in_err-came-clause-err g c =
    let broken = broken_after g.W.Wire.calls c.args.connection.now c.send.new.connection _ c.in_ok-all_sent.ensures.ok c.in_err-came.ensures.err in
    search (rules, broken)

pub returns-in-Nothing-clause-ok : goal.returns-in-Nothing-clause-ok
returns-in-Nothing-clause-ok g c =
    gave_both g.W.Wire.calls c.args.connection.now c.send.new.connection c.hear.new.connection [] c.in_ok-all_sent.ensures.ok
    (subst (λ (came : Came). Gave g.W.Wire.calls c.send.new.connection (messages_of came) c.hear.new.connection) c.in-Nothing.is c.in_ok-came.ensures.ok)

pub returns-in_default-clause-ok : goal.returns-in_default-clause-ok
returns-in_default-clause-ok g c =
    gave_both g.W.Wire.calls c.args.connection.now c.send.new.connection c.hear.new.connection (messages_of c.in_ok-came.came) c.in_ok-all_sent.ensures.ok c.in_ok-came.ensures.ok
