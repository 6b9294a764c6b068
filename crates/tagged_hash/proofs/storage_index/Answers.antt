use Rattle.std.proofs.Common.{rules}
use Rattle.tagged_hash.proofs.storage_index.Goals as goal

pub returns : goal.returns
returns c = search rules
