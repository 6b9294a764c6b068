use Rattle.std.proofs.Common.{arith}
use Rattle.std.proofs.lemmas.Grind.{common_steps}
use Rattle.share_verify.proofs.sections.check_sections.Goals as goal

pub returns-then-not-has_share_hashes-clause-refused : goal.returns-then-not-has_share_hashes-clause-refused
returns-then-not-has_share_hashes-clause-refused c = grind (arith, common_steps)

pub returns-then-not-is_tree_of-clause-sound : goal.returns-then-not-is_tree_of-clause-sound
returns-then-not-is_tree_of-clause-sound c = grind (arith, common_steps)

pub returns-then-not-is_tree_of-clause-refused : goal.returns-then-not-is_tree_of-clause-refused
returns-then-not-is_tree_of-clause-refused c = grind (arith, common_steps)

pub returns-clause-refused : goal.returns-clause-refused
returns-clause-refused c = grind (arith, common_steps)
