use Rattle.grid_servers.specs.Opened.{AllStand}
use Rattle.grid_servers.proofs.opening.open_nodes.Given as goal

abbrev pub invariant-loop-server : goal.invariant-loop-server
invariant-loop-server g l = AllStand l.fn.opening.grid.now l.fn.opening.known l.fn.opening.purpose l.nodes.items
