use Rattle.std.proofs.Common.{◌≡◌, ◌≤◌, ◌+◌, ◌∙◌, ap, rules, true}
use Rattle.served_grid.specs.Remotes.{given_up, is_awaited, patience}
use Rattle.served_grid.proofs.Clients.{late}
use Rattle.served_grid.proofs.remote.RemoteServer.tick.Goals as goal

pub returns-then-patience-self : goal.returns-then-patience-self
returns-then-patience-self g c =
    let awaited : is_awaited c.args.self.now ≡ true = search rules in
    let enough : patience c.args.self.now.connection ≤ c.args.self.now.quiet + 1 = search rules in
    (c.give_up.ensures ∙ ap given_up c.self.view_is) ∙ late g.W.Wire.calls c.args.self.now awaited enough
