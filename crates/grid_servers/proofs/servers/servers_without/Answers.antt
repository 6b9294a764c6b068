use Rattle.std.proofs.Common.{◌∙◌, ap, subst, sym, eqb}
use Rattle.std.specs.List.{IsDistinct}
use Rattle.std.proofs.lemmas.List.{take_all}
use Rattle.grid_servers.specs.Servers.{is_left, servers_without}
use Rattle.grid_servers.proofs.Left.{filtered_distinct}
use Rattle.grid_servers.proofs.servers.servers_without.Goals as goal

pub returns-clause-left : goal.returns-clause-left
returns-clause-left c =
    c.loop-server.invariant
    ∙ ap (λ servers. servers_without servers c.args.without.now)
    (take_all c.loop-server.server-index c.args.servers.now c.loop-server-test.false)

pub returns-clause-distinct : goal.returns-clause-distinct
returns-clause-distinct c distinct =
    subst (IsDistinct eqb) (sym (returns-clause-left c))
    (filtered_distinct (is_left c.args.without.now) c.args.servers.now distinct)
