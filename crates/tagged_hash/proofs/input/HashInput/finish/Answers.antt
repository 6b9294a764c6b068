use Rattle.std.proofs.Common.{rules}
use Rattle.tagged_hash.specs.TaggedHash.{double_sha256}
use Rattle.tagged_hash.specs.TaggedHasher.{IsInput}
use Rattle.tagged_hash.proofs.input.HashInput.finish.Goals as goal

pub returns : goal.returns
unfolding IsInput double_sha256
returns c = search rules
