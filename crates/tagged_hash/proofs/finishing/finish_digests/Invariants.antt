use Rattle.std.proofs.Common.{◌≡◌, ℕ, ◌*◌, ◌<◌, List, [], ◌++◌, length, min, slice_index_or}
use Rattle.tagged_hash.specs.TaggedHash.{tagged_hash}
use Rattle.tagged_hash.specs.declared.tag.Tag.TheVariants.{WholeShare}
use Rattle.tagged_hash.specs.Wholes.{AreGiven}
use Rattle.tagged_hash.proofs.finishing.finish_digests.Given as goal

abbrev pub invariant-loop-whole : goal.invariant-loop-whole
invariant-loop-whole g l = record {
  count : length l.digests.items ≡ min (7 * length l.yielded) l.total;
  made : (written : ℕ → List ℕ) → AreGiven l.total written l.fn.wholes.items → (i : ℕ) → i < length l.digests.items
      → slice_index_or l.digests.items i [] ≡ tagged_hash WholeShare (written i ++ g.E.Endings.ending l.endings i);
}
