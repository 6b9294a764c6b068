use Rattle.grid_serving.specs.Places.{is_late}
use Rattle.grid_serving.proofs.InTurn.{GoneSoFar}
use Rattle.grid_serving.proofs.clients.Clients.end_late.Given as goal

-- these are gone so far
abbrev pub invariant-loop-node : goal.invariant-loop-node
invariant-loop-node g l = GoneSoFar g.S.Store.calls (is_late l.now) l.node l.fn.self l.fn.server l.self l.server
