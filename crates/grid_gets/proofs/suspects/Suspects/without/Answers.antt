use Rattle.grid_gets.proofs.SpanLemmas.{left_among}
use Rattle.grid_gets.proofs.suspects.Suspects.without.Goals as goal

pub returns-clause-some : goal.returns-clause-some
returns-clause-some g c = left_among c.args.servers.now c.as_slice.result.now c.servers_without.result c.servers_without.ensures.left
