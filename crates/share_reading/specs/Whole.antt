-- When reads bring all bytes of a share.
use Rattle.std.specs.Prelude.{◌≡◌, ℕ, ◌+◌, ◌<◌, ◌≤◌, List, [], ◌∷◌, length, Contains}
use Rattle.std.specs.List.{flat_map}
use Rattle.share_reading.specs.OpeningReads.{Brought}
use Rattle.share_reading.specs.Blame.{HasReads}

-- the share has the bytes that the reads brought, each at its offset, and no others
pub record IsWhole (reads : List Brought) (share : List ℕ) : Type 0 where
  pub has : HasReads reads share
  pub covered : (offset : ℕ) → offset < length share
      → (read : Brought) × Contains reads read
      × (read.0 ≤ offset) × (offset < read.0 + length read.1)

-- the reads follow one another, from an offset up to another
abbrev pub AreConsecutive : ℕ → List Brought → ℕ → Type 0
AreConsecutive offset [] end = offset ≡ end
AreConsecutive offset (read ∷ reads) end =
    (read.0 ≡ offset) × AreConsecutive (offset + length read.1) reads end

-- their bytes, one after another
abbrev pub joined : List Brought → List ℕ
joined reads = flat_map (λ (read : Brought). read.1) reads

-- a law: two shares that were read whole by the same reads are one
abbrev pub AreOne : Type 0
AreOne = (reads : List Brought) (share other : List ℕ)
    → IsWhole reads share → IsWhole reads other → share ≡ other
