use Rattle.std.proofs.Common.{◌≡◌, ◌+◌, ◌*◌, ◌<◌, ℕ, [], get_or, length}
use Rattle.tagged_hash.specs.TaggedHash.{empty_leaf_hash}
use Rattle.merkle.proofs.padding.empty_run.Given as goal

abbrev pub invariant-loop-group : goal.invariant-loop-group
invariant-loop-group l = record {
  full : length l.leaves ≡ 128;
  written : (k : ℕ) → k < 8 * l.group → get_or l.leaves k [] ≡ empty_leaf_hash (l.first + k);
}
