-- What the hashers of whole shares were given.
use Rattle.std.specs.Prelude.{◌≡◌, ℕ, ◌+◌, ◌*◌, ◌<◌, List, slice_get, Some}
use Rattle.tagged_hash.specs.TaggedHasher.{HoldsIn}
use Rattle.tagged_hash.specs.declared.tag.Tag.TheVariants.{WholeShare}
use Rattle.tagged_hash.specs.declared.wholes.WholeHashers.{WholeHashers}

-- share j of seven is there, and its hasher was given these bytes
pub record IsGivenAt (whole : WholeHashers) (j : ℕ) (given : List ℕ) : Type 0 where
  pub there : j < whole.count
  pub holds : HoldsIn whole.hashers j WholeShare given

-- so was the hasher of each of so many shares, by number: seven stand at each position
abbrev pub AreGiven : ℕ → (ℕ → List ℕ) → List WholeHashers → Type 0
AreGiven total written wholes = (k j : ℕ) (whole : WholeHashers) → j < 7 → 7 * k + j < total
    → slice_get wholes k ≡ Some whole → IsGivenAt whole j (written (7 * k + j))
