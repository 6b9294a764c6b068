use Rattle.std.proofs.Common.{rules, take, length-take-le}
use Rattle.connections.proofs.connection.Connection.read.Goals as goal

pub returns-in_ok-feed-in-Ok-Bytes-clause-heard : goal.returns-in_ok-feed-in-Ok-Bytes-clause-heard
returns-in_ok-feed-in-Ok-Bytes-clause-heard g c = (
  take c.in-Ok-Bytes.count c.receive.new.room,
  search (rules, length-take-le),
  record {
    comes = search rules;
    greeting = λ short. search (rules, short, c.requires.whole);
    frames = λ whole. search rules;
  },
)
