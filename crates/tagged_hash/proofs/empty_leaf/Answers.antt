use Rattle.std.proofs.Common.{rules}
use Rattle.tagged_hash.proofs.empty_leaf.Goals as goal

pub returns : goal.returns
returns c = search rules
