use Rattle.std.proofs.Common.{◌≡◌, ◌≤◌, length, take}
use Rattle.tagged_hash.specs.TaggedHasher.{Holds}
use Rattle.tagged_hash.specs.declared.tag.Tag.TheVariants.{Ciphertext}
use Rattle.tagged_hash.specs.Wholes.{AreGiven}
use Rattle.file_encoding.specs.Digests.{begun_bytes}
use Rattle.file_encoding.proofs.digests.hash_beside.Given as goal

abbrev pub invariant-loop-group : goal.invariant-loop-group
invariant-loop-group l = record {
  within : l.hashed ≤ length l.ciphertext;
  text : Holds l.hasher Ciphertext (take l.hashed l.ciphertext);
  count : length l.wholes.items ≡ l.group;
  given : AreGiven (length l.begun) (begun_bytes l.begun) l.wholes.items;
}
