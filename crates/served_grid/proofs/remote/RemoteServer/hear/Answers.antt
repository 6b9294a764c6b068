use Rattle.std.proofs.Common.{subst}
use Rattle.served_grid.specs.Heard.{Hears, messages_of}
use Rattle.served_grid.specs.Remotes.{RemoteState}
use Rattle.served_grid.proofs.Clients.{clients_on, had, heard_is}
use Rattle.served_grid.proofs.remote.RemoteServer.hear.Goals as goal

pub invariant_of-self-in-Ok : goal.invariant_of-self-in-Ok
invariant_of-self-in-Ok g c =
    clients_on g.W.Wire.calls c.self.inside.own c.in-Some.connection c.carry.new.connection (messages_of c.in-Ok.came)
    (had g.W.Wire.calls c.self.inside.own c.self.inside.connection c.in-Some.connection c.in-Some.is c.self.invariant) c.in-Ok.ensures.ok

pub returns-in-Ok-clause-heard : goal.returns-in-Ok-clause-heard
returns-in-Ok-clause-heard g c =
    let before : RemoteState g.row.W.Denot = record { own = c.self.inside.own; connection = c.self.inside.connection; tries = c.self.inside.tries; awaited = c.self.inside.awaited; quiet = c.self.inside.quiet; fault = c.self.inside.fault } in
    subst (λ (r : RemoteState g.row.W.Denot). Hears g.W.Wire.calls r r.connection c.in-Ok.came c.note.new.self) c.self.view_is
    (heard_is g.W.Wire.calls before c.note.new.self c.in-Some.connection c.carry.new.connection c.in-Ok.came c.in-Some.is c.in-Ok.ensures.ok c.note.ensures)
