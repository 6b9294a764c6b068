use Rattle.download_shares.proofs.Goes.{right_taken}
use Rattle.download_shares.proofs.Fields.{seen_holdings}
use Rattle.download_shares.proofs.holdings.Holdings.take_up.Goals as goal

pub invariant_of-self : goal.invariant_of-self
invariant_of-self c = right_taken (seen_holdings c.self.inside) c.self.invariant c.args.holding c.take_up.new.self c.take_up.ensures.takes

pub returns-clause-right : goal.returns-clause-right
returns-clause-right c = invariant_of-self c
