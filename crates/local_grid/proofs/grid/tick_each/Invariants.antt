use Rattle.std.proofs.Common.{◌≡◌, ◌++◌, map, take, drop}
use Rattle.local_grid.specs.Nodes.{ticked}
use Rattle.local_grid.proofs.grid.tick_each.Given as goal

-- those before this one took note
abbrev pub invariant-loop-position : goal.invariant-loop-position
invariant-loop-position g l = l.position-items ≡ map (ticked l.now) (take l.position-index l.fn.nodes.items) ++ drop l.position-index l.fn.nodes.items
