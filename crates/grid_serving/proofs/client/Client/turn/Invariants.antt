use Rattle.std.specs.Prelude.{◌≡◌}
use Rattle.grid_serving.specs.Turns.{HasTurn}
use Rattle.grid_serving.proofs.client.Client.turn.Given as goal

-- what was done so far, and the desk keeps its greeting
abbrev pub invariant-loop : goal.invariant-loop
invariant-loop g l =
    HasTurn g.W.Wire.calls g.S.Store.calls l.node l.now l.fn.self l.fn.server l.self l.server × (l.desk.own ≡ l.fn.desk.own)
