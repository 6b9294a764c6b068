use Rattle.download_shares.proofs.Goes.{right_released}
use Rattle.download_shares.proofs.Fields.{seen_holdings}
use Rattle.download_shares.proofs.holdings.Holdings.release.Goals as goal

pub invariant_of-self : goal.invariant_of-self
invariant_of-self c = right_released (seen_holdings c.self.inside) c.self.invariant c.args.holding c.release.new.self c.release.ensures.releases

pub returns-clause-right : goal.returns-clause-right
returns-clause-right c = invariant_of-self c
