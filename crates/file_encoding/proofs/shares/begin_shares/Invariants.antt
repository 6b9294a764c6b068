use Rattle.merkle.specs.Tree.{tree_nodes}
use Rattle.file_encoding.specs.BegunFiles.{AreBegun}
use Rattle.file_encoding.proofs.shares.begin_shares.Given as goal

abbrev pub invariant-loop-number : goal.invariant-loop-number
invariant-loop-number l = AreBegun l.common.geometry.now l.common.padded.now (tree_nodes l.common.ciphertext_tree.now) l.number l.begun.items
