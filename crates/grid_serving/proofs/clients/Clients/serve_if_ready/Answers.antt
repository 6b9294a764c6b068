use Rattle.std.proofs.Common.{◌∙◌, sym}
use Rattle.grid_serving.specs.Places.{holds_at, is_awake}
use Rattle.grid_serving.proofs.InTurn.{one_served}
use Rattle.grid_serving.proofs.clients.Clients.serve_if_ready.Goals as goal

pub returns-clause-ok : goal.returns-clause-ok
returns-clause-ok g c =
    one_served g.W.Wire.calls g.S.Store.calls c.args.now (holds_at is_awake c.args.self.now c.args.node) c.args.node c.args.self.now c.serve.new.self c.args.server.now c.serve.new.server (sym c.is_ready.ensures ∙ c.if-not-is_ready.false) c.in_ok-serve.ensures.ok
