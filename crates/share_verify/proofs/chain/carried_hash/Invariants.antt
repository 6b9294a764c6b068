use Rattle.std.proofs.Common.{◌≡◌, drop}
use Rattle.share_verify.specs.ShareHashes.{carried_hash}
use Rattle.share_verify.proofs.chain.carried_hash.Given as goal

abbrev pub invariant-loop-entry : goal.invariant-loop-entry
invariant-loop-entry l = carried_hash l.entries l.number ≡ carried_hash (drop l.entry-index l.entries) l.number
