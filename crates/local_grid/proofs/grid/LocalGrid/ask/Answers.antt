use Rattle.std.proofs.Common.{◌<◌, length, rules}
use Rattle.std.proofs.lemmas.Result.{IfOk-weaker}
use Rattle.local_grid.specs.Turns.{GridState}
use Rattle.local_grid.proofs.NodeLaws.{asked, asked_in_vain, missed, on_err}
use Rattle.local_grid.proofs.grid.LocalGrid.ask.Goals as goal

pub returns-in-Some-clause-ok : goal.returns-in-Some-clause-ok
returns-in-Some-clause-ok g c =
    let before : GridState g.row.S.Denot g.row.L.Denot = record { nodes = c.self.inside.nodes.items; clock = c.self.inside.clock } in
    let within : c.from-position.result < length before.nodes = search rules in
    IfOk-weaker c.exchange.result _ _
    (λ answer exchanges. asked g.S.Store.calls g.L.Link.carries c.args.self.now before c.from-position.result c.args.node c.index_mut.result.now c.self.view_is c.from-position.ensures within c.index_mut.ensures.value c.args.message.now answer c.in-Some.asked c.exchange.new.self c.in-Some.is exchanges)
    c.exchange.ensures.ok

pub returns-in-Some-clause-err : goal.returns-in-Some-clause-err
returns-in-Some-clause-err g c =
    let before : GridState g.row.S.Denot g.row.L.Denot = record { nodes = c.self.inside.nodes.items; clock = c.self.inside.clock } in
    let within : c.from-position.result < length before.nodes = search rules in
    on_err g.S.Store.calls g.L.Link.carries g.L.Link.gives_up c.exchange.result
    (asked_in_vain g.S.Store.calls g.L.Link.carries g.L.Link.gives_up c.args.self.now before c.from-position.result c.args.node c.index_mut.result.now c.self.view_is c.from-position.ensures within c.index_mut.ensures.value c.args.message.now c.in-Some.asked c.exchange.new.self c.in-Some.is)
    c.exchange.ensures.err

pub returns-in-None-clause-ok : goal.returns-in-None-clause-ok
returns-in-None-clause-ok g c =
    let before : GridState g.row.S.Denot g.row.L.Denot = record { nodes = c.self.inside.nodes.items; clock = c.self.inside.clock } in
    let within : c.from-position.result < length before.nodes = search rules in
    missed g.S.Store.calls g.L.Link.carries c.args.self.now before c.from-position.result c.args.node c.index_mut.result.now c.self.view_is c.from-position.ensures within c.index_mut.ensures.value c.args.message.now c.in-None.is
