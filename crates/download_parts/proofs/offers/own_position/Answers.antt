use Rattle.std.proofs.Common.{rules}
use Rattle.download_parts.proofs.OfferLemmas.{own_at}
use Rattle.download_parts.proofs.offers.own_position.Goals as goal

pub returns-clause-own : goal.returns-clause-own
returns-clause-own c = own_at c.args.height c.args.leaf c.saturating_sub.result c.requires.inside (search rules)
