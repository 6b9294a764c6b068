use Rattle.std.proofs.Common.{◌≡◌, map, take}
use Rattle.file_encoding.proofs.shares.build_share_tree.Given as goal

abbrev pub invariant-loop-share : goal.invariant-loop-share
invariant-loop-share l = l.roots.items ≡ map (λ b. b.root) (take l.share-index l.begun)
