use Rattle.download_shares.proofs.Goes.{right_suspended}
use Rattle.download_shares.proofs.Fields.{seen_holdings}
use Rattle.download_shares.proofs.holdings.Holdings.suspend.Goals as goal

pub invariant_of-self : goal.invariant_of-self
invariant_of-self c = right_suspended (seen_holdings c.self.inside) c.self.invariant c.args.holding c.args.suspended c.suspend.new.self c.suspend.ensures.suspends

pub returns-clause-right : goal.returns-clause-right
returns-clause-right c = invariant_of-self c
