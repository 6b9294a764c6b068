use Rattle.download_shares.proofs.Goes.{right_sent}
use Rattle.download_shares.proofs.Sending.{sent_entries}
use Rattle.download_shares.proofs.Fields.{seen_holdings}
use Rattle.download_shares.proofs.holdings.Holdings.send_next.Goals as goal

pub invariant_of-self : goal.invariant_of-self
invariant_of-self c =
    right_sent (seen_holdings c.self.inside) c.self.invariant c.send_next.new.self
    (sent_entries c.args.index c.self.inside.requests c.send_next.new.self c.send_next.result c.send_next.ensures)

pub returns-clause-right : goal.returns-clause-right
returns-clause-right c = invariant_of-self c
