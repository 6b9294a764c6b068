use Rattle.std.proofs.Common.{◌≡◌, map, take}
use Rattle.merkle.specs.Tree.{tree_root}
use Rattle.share_gathering.proofs.finishing.build_share_tree.Given as goal

abbrev pub invariant-loop-tree : goal.invariant-loop-tree
invariant-loop-tree l = l.roots.items ≡ map tree_root (take l.tree-index l.block_trees)
