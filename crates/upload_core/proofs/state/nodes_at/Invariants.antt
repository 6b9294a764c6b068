use Rattle.std.proofs.Common.{◌≡◌, map, take}
use Rattle.upload_core.specs.Moves.{node_at}
use Rattle.upload_core.proofs.state.nodes_at.Given as goal

abbrev pub invariant-loop-position : goal.invariant-loop-position
invariant-loop-position l = l.nodes.items ≡ map (node_at l.servers) (take l.position-index l.positions)
