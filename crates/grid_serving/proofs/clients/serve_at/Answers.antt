use Rattle.std.proofs.Common.{◌≡◌, Option, Some, rules, subst, sym}
use Rattle.grid_serving.specs.Places.{ClientState}
use Rattle.grid_serving.specs.Turns.{IsCutOffAt}
use Rattle.grid_serving.proofs.InTurn.{cut_off, turned}
use Rattle.grid_serving.proofs.clients.serve_at.Goals as goal

pub returns-in-Ok-clause-ok : goal.returns-in-Ok-clause-ok
returns-in-Ok-clause-ok g c =
    let is : c.args.place.now ≡ Some c.in-Some.client = search rules in
    turned g.W.Wire.calls g.S.Store.calls c.args.now c.args.node c.args.place.now c.in-Some.client c.turn.new.self c.args.server.now c.turn.new.server c.let_go.new.self is c.in-Ok.ensures.ok c.let_go.ensures

pub returns-in-Err-clause-err : goal.returns-in-Err-clause-err
returns-in-Err-clause-err g c =
    let is : c.args.place.now ≡ Some c.in-Some.client = search rules in
    subst (λ (o : Option (ClientState g.row.W.Denot)). IsCutOffAt g.W.Wire.calls g.S.Store.calls c.args.node c.args.now c.in-Err.fault c.args.place.now c.args.server.now o c.end_buckets.new.server) (sym c.take.ensures.after)
    (cut_off g.W.Wire.calls g.S.Store.calls c.args.now c.args.node c.in-Err.fault c.args.place.now c.in-Some.client c.args.server.now c.turn.new.server c.end_buckets.new.server is c.in-Err.ensures.err c.end_buckets.ensures)
