use Rattle.std.proofs.Common.{◌∙◌, sym}
use Rattle.grid_serving.specs.Places.{holds_at, is_late}
use Rattle.grid_serving.proofs.InTurn.{one_leaves}
use Rattle.grid_serving.proofs.clients.Clients.end_if_late.Goals as goal

pub returns-then-is_late : goal.returns-then-is_late
returns-then-is_late g c =
    one_leaves g.S.Store.calls (holds_at (is_late c.args.now) c.args.self.now c.args.node) c.args.node c.args.self.now c.end.new.self c.args.server.now c.end.new.server (sym c.is_late.ensures ∙ c.if-is_late.true) c.end.ensures
