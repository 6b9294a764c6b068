use Rattle.std.proofs.Common.{arith}
use Rattle.std.proofs.lemmas.Nat.{pow_pos}
use Rattle.merkle.proofs.HeightLemmas.{height_room}
use Rattle.merkle.specs.Tree.{height}
use Rattle.share_verify.proofs.tree.first_leaf.Goals as goal

pub returns-clause-value : goal.returns-clause-value
returns-clause-value c = omega (arith, pow_pos (height c.args.leaf_count))

pub returns-clause-room : goal.returns-clause-room
returns-clause-room c = omega (arith, height_room c.args.leaf_count, pow_pos (height c.args.leaf_count))
