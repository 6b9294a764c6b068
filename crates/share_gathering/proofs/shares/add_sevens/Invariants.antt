use Rattle.std.proofs.Common.{ℕ, ◌*◌, ◌≤◌, List, ◌++◌, length, min, take}
use Rattle.tagged_hash.specs.TaggedHasher.{Holds}
use Rattle.tagged_hash.specs.declared.tag.Tag.{Tag}
use Rattle.share_gathering.specs.Groups.{row_of}
use Rattle.share_gathering.specs.Shares.{HasBlocksMore, HavePieceMore}
use Rattle.share_gathering.proofs.ShareBlocks.{HaveSoFar}
use Rattle.share_gathering.proofs.shares.add_sevens.Given as goal

abbrev pub invariant-loop-seven : goal.invariant-loop-seven
invariant-loop-seven l = record {
  shares : HaveSoFar (HasBlocksMore l.group.count l.size (row_of l.geometry l.group (take l.group.len l.segments))) l.fn.shares l.shares (min (7 * l.seven) (length l.fn.shares));
  wholes : HaveSoFar (HavePieceMore l.geometry.total (row_of l.geometry l.group (take l.group.len l.segments))) l.fn.wholes l.wholes l.seven;
  within : l.given ≤ length l.beside;
  other : (tag : Tag) (text : List ℕ) → Holds l.fn.other tag text → Holds l.other tag (text ++ take l.given l.beside);
}
