use Rattle.std.proofs.Common.{refl}
use Rattle.local_grid.specs.Turns.{GridState}
use Rattle.local_grid.proofs.NodeLaws.{all_pass}
use Rattle.local_grid.proofs.grid.LocalGrid.pass_to.Goals as goal

pub returns : goal.returns
returns g c =
    let before : GridState g.row.S.Denot g.row.L.Denot = record { nodes = c.self.inside.nodes.items; clock = c.self.inside.clock } in
    all_pass before c.args.self.now before.nodes c.tick_each.new.nodes.items c.args.now c.self.view_is refl c.tick_each.ensures
