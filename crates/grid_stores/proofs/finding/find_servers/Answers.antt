use Rattle.std.proofs.Common.{sym}
use Rattle.grid_stores.proofs.StatusLemmas.{next_found}
use Rattle.grid_stores.proofs.finding.find_servers.Goals as goal

pub loop-server-preserved : goal.loop-server-preserved
loop-server-preserved g c =
    next_found c.args.servers.now c.loop-server.server-index c.loop-server.found.items c.push.new.self.items c.in_ok-find_server.field-0 c.loop-server-test.true c.in_ok-push.ensures.items
    c.in_ok-find_server.ensures c.loop-server.invariant
