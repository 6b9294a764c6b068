-- How far files were read that are read side by side.
use Rattle.std.specs.Prelude.{◌≡◌, ℕ, List, Option, IfSome, slice_get}
use Rattle.std.specs.Io.KnownBytes.{Consumes, IsAtEnd}
use Rattle.sha2_lanes.specs.Stream.{Taken}
use Rattle.tagged_hash.specs.declared.tag.Tag.TheVariants.{WholeShare}
use Rattle.tagged_hash.specs.TaggedHasher.{IsGiven}
use Rattle.share_files.specs.declared.reading.Reading.{Reading}
use Rattle.share_files.specs.declared.reading.Stage.TheVariants.{Ended}

-- of all that a reader had, as far as it is known, this is left, and this was taken in of the rest
abbrev pub HasTaken : Option (List ℕ) → Option (List ℕ) → Taken → Type 0
HasTaken all left taken =
    (given : List ℕ) × IsGiven taken WholeShare given × Consumes all left given

-- a hasher was given what was read of a file since it was opened, and an ended one has no more
pub record IsReading {F : Type 0} (remaining : F → Option (List ℕ)) (reading : Reading F)
    : Type 0 where
  pub taken : HasTaken (remaining reading.first.value) (remaining reading.file) reading.hasher
  pub ended : reading.stage ≡ Ended → IsAtEnd (remaining reading.file)

-- this is what the hasher of the file at a place has taken in, or waits to
abbrev pub HasHasherAt : {F : Type 0} → ℕ → Taken → List (Reading F) → Type 0
HasHasherAt place taken readings = IfSome (slice_get readings place) (λ r. taken ≡ r.hasher)
