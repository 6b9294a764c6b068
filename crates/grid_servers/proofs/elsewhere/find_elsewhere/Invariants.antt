use Rattle.grid_servers.specs.Opened.{AllElsewhere, AreApart}
use Rattle.grid_servers.proofs.elsewhere.find_elsewhere.Given as goal

abbrev pub invariant-loop-server : goal.invariant-loop-server
invariant-loop-server g l = AllElsewhere l.fn.opening.known l.found.remotes.items × AreApart l.fn.here l.found.remotes.items
