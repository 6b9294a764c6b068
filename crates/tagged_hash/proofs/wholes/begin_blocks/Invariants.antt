use Rattle.std.proofs.Common.{◌≡◌, ℕ, ◌<◌, ◌≤◌, List, [], length}
use Rattle.tagged_hash.specs.TaggedHasher.{HoldsIn}
use Rattle.tagged_hash.specs.declared.tag.Tag.{Tag}
use Rattle.tagged_hash.specs.declared.tag.Tag.TheVariants.{Block}
use Rattle.tagged_hash.proofs.wholes.begin_blocks.Given as goal

abbrev pub invariant-loop-lane : goal.invariant-loop-lane
invariant-loop-lane l = record {
  long : length l.hashers ≡ 8;
  shares : (j : ℕ) (tag : Tag) (given : List ℕ) → j < 3 → HoldsIn l.fn.hashers j tag given → HoldsIn l.hashers j tag given;
  blocks : (j : ℕ) → 3 ≤ j → j < l.lane → HoldsIn l.hashers j Block [];
}
