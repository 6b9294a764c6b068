use Rattle.std.proofs.Common.{◌<◌, length, sym, subst}
use Rattle.download_shares.specs.HoldingMoves.{Blames}
use Rattle.download_shares.specs.HoldingState.{HoldingsState, holdings_state}
use Rattle.download_shares.proofs.Goes.{BlamesNow, blamed_by}
use Rattle.download_shares.proofs.Fields.{seen_holdings}
use Rattle.download_shares.proofs.holdings.Holdings.blame.Goals as goal

blames : (c : goal.After-retire) → BlamesNow (seen_holdings c.self.inside) c.args.holding c.args.check (holdings_state c.self.inside.requests c.self.inside.servers c.retire.new.self c.self.inside.owners.items c.push.new.self.items)
blames c =
    let lt : c.args.holding < length c.self.inside.table.holdings = subst (λ (s : HoldingsState). c.args.holding < length s.table.holdings) (sym c.self.view_is) c.requires in
    blamed_by (seen_holdings c.self.inside) c.self.invariant c.args.holding c.args.check c.holdings.result.now _ c.retire.new.self c.push.new.self.items c.holdings.ensures.value lt c.in_ok-push.ensures.items c.retire.ensures.retires

pub invariant_of-self-2 : goal.invariant_of-self-2
invariant_of-self-2 c = (blames c).right

pub returns-clause-ok : goal.returns-clause-ok
returns-clause-ok c = subst (λ (s : HoldingsState). Blames c.args.holding c.args.check s (holdings_state c.self.inside.requests c.self.inside.servers c.retire.new.self c.self.inside.owners.items c.push.new.self.items)) c.self.view_is (blames c).blames

pub returns-clause-right : goal.returns-clause-right
returns-clause-right c = (blames c).right
