use Rattle.std.proofs.Common.{◌≡◌, ℕ, ◌<◌, [], Some, length, slice_index_or}
use Rattle.merkle.specs.Tree.{sibling_number}
use Rattle.share_verify.specs.ShareHashes.{carried_hash}
use Rattle.share_verify.proofs.chain.sibling_hashes.Given as goal

abbrev pub invariant-loop-i : goal.invariant-loop-i
invariant-loop-i l = record {
  size : length l.siblings ≡ 8;
  found : (k : ℕ) → k < l.i → carried_hash l.entries (sibling_number l.height l.leaf k) ≡ Some (slice_index_or l.siblings k []);
}
