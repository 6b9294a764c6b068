use Rattle.std.proofs.Common.{rules, ◌≡◌, ◌+◌, ◌++◌, ◌≤◌, ℕ, List, length, take, length-take-le}
use Rattle.std.proofs.lemmas.List.{length-append}
use Rattle.connections.proofs.Pieces.{greeted_len, greeted_more}
use Rattle.connections.proofs.connection.Connection.hear_greeting.Goals as goal

pub returns-in-Ok-Bytes-clause-heard : goal.returns-in-Ok-Bytes-clause-heard
returns-in-Ok-Bytes-clause-heard g c =
    let count = c.in-Ok-Bytes.count in
    let room = c.receive.new.room in
    let before = c.self.inside.greeted in
    let greeting = c.self.inside.greeting in
    let len = greeted_len before greeting c.self.invariant.size c.self.invariant.greeting in
    let there : count ≤ length room = search rules in
    let more : (rest : List ℕ) → take (before + count) (take before greeting ++ (room ++ rest)) ≡ take before greeting ++ take count room =
    λ rest. greeted_more before count greeting room rest c.self.invariant.size c.self.invariant.greeting there in (
      take count room,
      search (rules, length-take-le),
      record {
        comes = search rules;
        greeting = λ short. (search (rules, more, len, length-append, length-take-le), search (rules, more));
        frames = λ whole. search (rules, whole, c.requires);
      },
    )
