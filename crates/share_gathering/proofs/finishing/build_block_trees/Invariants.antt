use Rattle.std.proofs.Common.{◌≡◌, map}
use Rattle.share_gathering.proofs.finishing.build_block_trees.Given as goal

abbrev pub invariant-loop-share : goal.invariant-loop-share
invariant-loop-share l = l.trees.items ≡ map (λ share. share.leaves.items) l.yielded
