use Rattle.std.proofs.Common.{subst}
use Rattle.std.proofs.lemmas.Result.{IfOk-weaker}
use Rattle.grid_servers.specs.Opened.{AreApart}
use Rattle.grid_servers.proofs.Standing.{opened}
use Rattle.grid_servers.proofs.opening.open_servers.Goals as goal

pub returns : goal.returns
returns g c =
    IfOk-weaker c.side_by_side.result _ _
    (λ grid is.
    opened c.args.grid.now c.in_ok-grid_mark.field-0 c.args.purpose c.in_ok-nodes.nodes.items c.in_ok-elsewhere.elsewhere.remotes.items grid is c.in_ok-grid_mark.ensures c.in_ok-nodes.ensures c.in_ok-elsewhere.ensures.stand
    (subst (λ here. AreApart here c.in_ok-elsewhere.elsewhere.remotes.items) c.as_slice.ensures.value c.in_ok-elsewhere.ensures.apart))
    c.side_by_side.ensures
