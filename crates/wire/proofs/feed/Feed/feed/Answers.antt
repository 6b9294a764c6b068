use Rattle.std.proofs.Common.{rules}
use Rattle.wire.proofs.feed.Feed.feed.Goals as goal

pub returns-clause-ok : goal.returns-clause-ok
returns-clause-ok c = search rules
