use Rattle.std.proofs.Common.{refl}
use Rattle.grid_serving.specs.Places.{ClientState}
use Rattle.grid_serving.proofs.Steps.{none_sent, some_sent}
use Rattle.grid_serving.proofs.client.Client.send.Goals as goal

pub returns-in-Nothing : goal.returns-in-Nothing
returns-in-Nothing g c =
    let inner : ClientState g.row.W.Denot = record { connection = c.self.inside.connection; came = c.self.inside.came; moved = c.self.inside.moved; is_ready = c.self.inside.is_ready } in
    let new : ClientState g.row.W.Denot = record inner { connection = c.send.new.self } in
    none_sent g.W.Wire.calls c.args.now inner c.args.self.now new c.in_ok-send.field-0 c.self.view_is c.in-Nothing.is c.in_ok-send.ensures.sent refl refl

pub returns-in-Bytes : goal.returns-in-Bytes
returns-in-Bytes g c =
    let inner : ClientState g.row.W.Denot = record { connection = c.self.inside.connection; came = c.self.inside.came; moved = c.self.inside.moved; is_ready = c.self.inside.is_ready } in
    let new : ClientState g.row.W.Denot = record inner { connection = c.send.new.self; moved = c.args.now } in
    some_sent g.W.Wire.calls c.args.now inner c.args.self.now new c.in_ok-send.field-0 c.self.view_is c.in-Bytes.is c.in_ok-send.ensures.sent refl refl
