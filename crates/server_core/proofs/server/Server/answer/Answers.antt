use Rattle.std.proofs.Common.{rules}
use Rattle.server_core.specs.ServerState.{DoesFor, ListsHoldings}
use Rattle.server_core.proofs.server.Server.answer.Goals as goal

pub returns-in-Ask-clause-does : goal.returns-in-Ask-clause-does
returns-in-Ask-clause-does g c =
    let does : DoesFor g.S.Store.calls (ListsHoldings c.in-Ask.index) c.args.now c.args.self.now c.list.result c.list.new.self = c.list.ensures.does c.args.now in
    let answers = does c.args.message.now in
    search rules
