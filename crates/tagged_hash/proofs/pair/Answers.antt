use Rattle.std.proofs.Common.{rules}
use Rattle.tagged_hash.proofs.pair.Goals as goal

pub returns : goal.returns
returns c = search rules
