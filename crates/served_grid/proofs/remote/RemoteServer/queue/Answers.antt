use Rattle.std.proofs.Common.{◌≡◌, ◌≤◌, length, rules}
use Rattle.wire.specs.Frames.{frame}
use Rattle.connections.specs.Connections.{put_behind}
use Rattle.served_grid.proofs.Clients.{clients_queued, had}
use Rattle.served_grid.proofs.remote.RemoteServer.queue.Goals as goal

pub invariant_of-self-2 : goal.invariant_of-self-2
invariant_of-self-2 g c =
    let few : length c.in-Some.connection.waiting ≤ 16777216 = search rules in
    let queued : c.queue.new.self ≡ put_behind (frame c.args.message.now) c.in-Some.connection = search rules in
    clients_queued g.W.Wire.calls c.self.inside.own c.in-Some.connection c.queue.new.self c.args.message.now
    (had g.W.Wire.calls c.self.inside.own c.self.inside.connection c.in-Some.connection c.in-Some.is c.self.invariant)
    c.queue.ensures.right queued few c.queue.ensures.bound
