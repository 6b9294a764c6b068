use Rattle.merkle.specs.Tree.{needed_numbers}
use Rattle.share_layout.proofs.NumberLemmas.{Left}
use Rattle.share_layout.proofs.share_hashes.carry.Given as goal

abbrev pub invariant-loop-offset : goal.invariant-loop-offset
invariant-loop-offset l = Left (needed_numbers l.height l.leaf) l.hashes l.offset l.rest
