use Rattle.std.specs.Prelude.{◌≡◌}
use Rattle.grid_serving.proofs.InTurn.{SoFar}
use Rattle.grid_serving.proofs.clients.Clients.serve_ready.Given as goal

-- these had their turns so far, and the desk keeps its greeting
abbrev pub invariant-loop-node : goal.invariant-loop-node
invariant-loop-node g l =
    SoFar g.W.Wire.calls g.S.Store.calls l.now l.node l.fn.self l.fn.server l.self l.server × (l.desk.own ≡ l.fn.desk.own)
