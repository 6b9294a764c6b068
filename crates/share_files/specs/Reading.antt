-- What was read so far.
use Rattle.std.specs.Prelude.{ℕ, List, Option}
use Rattle.std.specs.Io.KnownBytes.{Consumes}
use Rattle.tagged_hash.specs.declared.tag.Tag.TheVariants.{WholeShare}
use Rattle.tagged_hash.specs.declared.hasher.TaggedHasher.{TaggedHasher}
use Rattle.tagged_hash.specs.TaggedHasher.{Holds}

-- of all that a reader had, as far as it is known, this is left, and the hasher was given the rest
abbrev pub HasRead : Option (List ℕ) → Option (List ℕ) → TaggedHasher → Type 0
HasRead all left hasher =
    (given : List ℕ) × Holds hasher WholeShare given × Consumes all left given
