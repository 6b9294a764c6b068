use Rattle.std.proofs.Common.{◌≡◌, Ok, Some, rules}
use Rattle.wire.specs.Frames.{frame}
use Rattle.connections.specs.Connections.{put_behind}
use Rattle.grid_serving.specs.Places.{ClientState}
use Rattle.grid_serving.proofs.Steps.{answered}
use Rattle.grid_serving.proofs.client.Client.answer.Goals as goal

pub returns-in-Ok-clause-ok : goal.returns-in-Ok-clause-ok
returns-in-Ok-clause-ok g c =
    let inner : ClientState g.row.W.Denot = record { connection = c.self.inside.connection; came = c.self.inside.came; moved = c.self.inside.moved; is_ready = c.self.inside.is_ready } in
    let is : c.on_message.result ≡ Ok (Some c.in-Ok-Some.answer) = search rules in
    let queued : c.queue.new.self ≡ put_behind (frame c.in-Ok-Some.answer) c.self.inside.connection = search rules in
    answered g.W.Wire.calls g.S.Store.calls c.args.node c.args.now inner c.args.self.now c.queue.new.self c.args.message.now c.in-Ok-Some.answer c.on_message.result c.args.server.now c.on_message.new.self
    c.self.view_is is c.on_message.ensures.serves c.queue.ensures.right queued
