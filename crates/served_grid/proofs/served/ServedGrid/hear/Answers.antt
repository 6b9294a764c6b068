use Rattle.std.proofs.Common.{◌<◌, length, rules}
use Rattle.std.proofs.lemmas.Result.{IfOk-weaker}
use Rattle.served_grid.specs.Served.{ServedState}
use Rattle.served_grid.proofs.Hearing.{heard_one, on_err, vain_one}
use Rattle.served_grid.proofs.served.ServedGrid.hear.Goals as goal

pub returns-in-Some-clause-ok : goal.returns-in-Some-clause-ok
returns-in-Some-clause-ok g c =
    let before : ServedState g.row.S.Denot g.row.L.Denot g.row.W.Denot = record { here = c.self.inside.here; remotes = c.self.inside.remotes.items } in
    let within : c.from-position.result < length before.remotes = search rules in
    IfOk-weaker c.hear.result _ _
    (λ came h. heard_one g.W.Wire.calls c.args.self.now before c.from-position.result c.args.node c.index_mut.result.now c.in-Some.remote c.hear.new.self came c.self.view_is c.from-position.ensures within c.index_mut.ensures.value c.in-Some.is h)
    c.hear.ensures.heard

pub returns-in-Some-clause-err : goal.returns-in-Some-clause-err
returns-in-Some-clause-err g c =
    let before : ServedState g.row.S.Denot g.row.L.Denot g.row.W.Denot = record { here = c.self.inside.here; remotes = c.self.inside.remotes.items } in
    let within : c.from-position.result < length before.remotes = search rules in
    on_err c.hear.result
    (vain_one g.W.Wire.calls c.args.self.now before c.from-position.result c.index_mut.result.now c.in-Some.remote c.hear.new.self c.self.view_is within c.index_mut.ensures.value c.in-Some.is)
    c.hear.ensures.err
