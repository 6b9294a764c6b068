use Rattle.std.proofs.Common.{ℕ, ◌*◌, ◌<◌, ◌≤◌, List, ◌++◌, length, take, drop}
use Rattle.tagged_hash.specs.TaggedHasher.{Holds}
use Rattle.tagged_hash.specs.declared.tag.Tag.{Tag}
use Rattle.tagged_hash.specs.Wholes.{IsGivenAt}
use Rattle.share_gathering.specs.Shares.{HaveBlocksMore}
use Rattle.share_gathering.proofs.few.add_blocks.Given as goal

abbrev pub invariant-loop-number : goal.invariant-loop-number
invariant-loop-number l = record {
  shares : HaveBlocksMore l.number l.size (λ i. take l.group.row (drop (i * l.group.row) l.lanes)) l.fn.shares l.shares;
  whole : (j : ℕ) (given : List ℕ) → j < 3 → IsGivenAt l.fn.whole j given
      → IsGivenAt l.whole j (given ++ take (l.number * l.size) (take l.group.row (drop (j * l.group.row) l.lanes)));
  within : l.given ≤ length l.beside;
  other : (tag : Tag) (text : List ℕ) → Holds l.fn.other tag text → Holds l.other tag (text ++ take l.given l.beside);
}
