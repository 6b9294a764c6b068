use Rattle.std.proofs.Common.{refl}
use Rattle.download_shares.proofs.BegunHoldings.{begun_right}
use Rattle.download_shares.proofs.holdings.Holdings.begin.Goals as goal

pub invariant_of-result : goal.invariant_of-result
invariant_of-result c = begun_right c.args.total c.args.servers.now c.args.session c.args.now _ c.requires.distinct (record {
  requests = c.in_ok-begin.ensures;
  servers_are = refl;
  holdings = c.in_ok-new.ensures.holdings;
  numbers = c.in_ok-new.ensures.numbers;
  unread = c.in_ok-new.ensures.unread;
  owners = c.new-2.ensures.items;
  blamed = c.new-3.ensures.items;
})

pub returns-clause-right : goal.returns-clause-right
returns-clause-right c = invariant_of-result c
