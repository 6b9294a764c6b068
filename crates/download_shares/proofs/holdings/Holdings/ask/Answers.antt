use Rattle.std.proofs.Common.{ℕ, ◌<◌, ◌++◌, ◌∷◌, [], length, List, sym, subst, ap, ◌∙◌}
use Rattle.download_shares.specs.HoldingMoves.{Asks, IsUnasked}
use Rattle.download_shares.specs.HoldingState.{HoldingsState, holdings_state}
use Rattle.download_shares.proofs.Goes.{AsksNow, asked_by}
use Rattle.download_shares.proofs.Fields.{seen_holdings}
use Rattle.download_shares.proofs.holdings.Holdings.ask.Goals as goal

asks : (c : goal.After-push_reserved) → AsksNow (seen_holdings c.self.inside) c.args.holding c.args.offset c.args.len (holdings_state c.ask.new.self c.self.inside.servers c.self.inside.table c.push_reserved.new.self.items c.self.inside.blamed.items)
asks c =
    let lt : c.args.holding < length c.self.inside.table.holdings = subst (λ (s : HoldingsState). c.args.holding < length s.table.holdings) (sym c.self.view_is) c.requires.there in
    let unasked : IsUnasked (seen_holdings c.self.inside) c.args.holding c.args.offset c.args.len = subst (λ (s : HoldingsState). IsUnasked s c.args.holding c.args.offset c.args.len) (sym c.self.view_is) c.requires.unasked in
    asked_by (seen_holdings c.self.inside) c.self.invariant c.args.holding c.args.offset c.args.len c.holdings.result.now _ c.ask.new.self c.push_reserved.new.self.items c.holdings.ensures.value lt c.in_ok-ask.ensures.ok
    (c.push_reserved.ensures.items ∙ ap (λ (l : List ℕ). l ++ c.args.holding ∷ []) c.reserve.ensures.items) unasked

pub invariant_of-self-2 : goal.invariant_of-self-2
invariant_of-self-2 c = (asks c).right

pub returns-clause-ok : goal.returns-clause-ok
returns-clause-ok c = subst (λ (s : HoldingsState). Asks c.args.holding c.args.offset c.args.len s (holdings_state c.ask.new.self c.self.inside.servers c.self.inside.table c.push_reserved.new.self.items c.self.inside.blamed.items)) c.self.view_is (asks c).asks

pub returns-clause-right : goal.returns-clause-right
returns-clause-right c = (asks c).right
