use Rattle.std.proofs.Common.{◌<◌, length, rules, subst}
use Rattle.grid_serving.specs.Turns.{IsCutOffAt}
use Rattle.grid_serving.specs.declared.client.TurnFault.{TurnFault}
use Rattle.grid_serving.proofs.InTurn.{ended_there, failed_there}
use Rattle.grid_serving.proofs.clients.Clients.serve.Goals as goal

pub returns-in-Err-Ended-clause-ok : goal.returns-in-Err-Ended-clause-ok
returns-in-Err-Ended-clause-ok g c =
    let within : c.from.result < length c.self.inside.places.items = search rules in
    let cut = subst (λ (f : TurnFault). IsCutOffAt g.W.Wire.calls g.S.Store.calls c.args.node c.args.now f c.index_mut-place.result.now c.args.server.now c.serve_at.new.place c.serve_at.new.server) c.in-Err-Ended.field-0-is c.in-Err-Ended.ensures.err in
    ended_there g.W.Wire.calls g.S.Store.calls c.args.now c.from.result c.args.node c.in-Err-Ended.fault c.self.inside.places.items c.args.self.now c.note.new.self c.index_mut-place.result.now c.serve_at.new.place c.args.server.now c.serve_at.new.server
    c.self.view_is c.from.ensures within c.index_mut-place.ensures.value c.note.ensures cut

pub returns-in-Err-OutOfMemory-clause-err : goal.returns-in-Err-OutOfMemory-clause-err
returns-in-Err-OutOfMemory-clause-err g c =
    let within : c.from.result < length c.self.inside.places.items = search rules in
    let cut = subst (λ (f : TurnFault). IsCutOffAt g.W.Wire.calls g.S.Store.calls c.args.node c.args.now f c.index_mut-place.result.now c.args.server.now c.serve_at.new.place c.serve_at.new.server) c.in-Err-OutOfMemory.field-0-is c.in-Err-OutOfMemory.ensures.err in
    failed_there g.W.Wire.calls g.S.Store.calls c.args.now c.from.result c.args.node c.self.inside.places.items c.args.self.now c.note-in-Err-OutOfMemory.new.self c.index_mut-place.result.now c.serve_at.new.place c.args.server.now c.serve_at.new.server
    c.self.view_is c.from.ensures within c.index_mut-place.ensures.value c.note-in-Err-OutOfMemory.ensures cut
