use Rattle.std.proofs.Common.{rules, ◌≡◌, length, take}
use Rattle.connections.proofs.Pieces.{greeted_all}
use Rattle.connections.proofs.connection.Connection.is_fit.Goals as goal

pub returns-in-Client : goal.returns-in-Client
returns-in-Client g c =
    let came : length (take c.self.inside.greeted c.self.inside.greeting) ≡ 64 = search rules in
    let all = greeted_all c.self.inside.greeted c.self.inside.greeting c.self.invariant.size c.self.invariant.greeting came in
    search (rules, all)

pub returns-in-Server : goal.returns-in-Server
returns-in-Server g c =
    let came : length (take c.self.inside.greeted c.self.inside.greeting) ≡ 64 = search rules in
    let all = greeted_all c.self.inside.greeted c.self.inside.greeting c.self.invariant.size c.self.invariant.greeting came in
    search (rules, all)
