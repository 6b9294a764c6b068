use Rattle.server_core.specs.ServerState.{LetsGoOfEnded}
use Rattle.server_core.proofs.server.Server.let_go.Given as goal

-- the shares so far had no bucket
abbrev pub invariant-loop : goal.invariant-loop
invariant-loop g l = LetsGoOfEnded g.S.Store.calls l.fn.self l.self
