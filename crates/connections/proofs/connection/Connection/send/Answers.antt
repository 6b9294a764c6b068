use Rattle.std.proofs.Common.{rules, take, length-take-le, take-append-drop}
use Rattle.connections.proofs.connection.Connection.send.Goals as goal

pub returns-in-Ok-Some-clause-sent : goal.returns-in-Ok-Some-clause-sent
returns-in-Ok-Some-clause-sent g c = (
  take c.in-Ok-Some.count c.as_slice.result.now,
  search (rules, length-take-le),
  record {
    goes = search rules;
    front = search (rules, take-append-drop);
    others = search rules;
  },
)
