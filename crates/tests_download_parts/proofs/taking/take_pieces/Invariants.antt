use Rattle.std.proofs.Common.{◌≡◌}
use Rattle.tests_download_parts.proofs.taking.take_pieces.Given as goal

abbrev pub invariant-loop-level : goal.invariant-loop-level
invariant-loop-level l = record {
  same : l.trees.geometry ≡ l.fn.trees.geometry;
  count : l.tree.leaf_count ≡ l.fn.tree.leaf_count;
}

abbrev pub invariant-loop-index : goal.invariant-loop-index
invariant-loop-index l = record {
  same : l.trees.geometry ≡ l.fn.trees.geometry;
  count : l.tree.leaf_count ≡ l.fn.tree.leaf_count;
}
