-- What holds of reads that are decoded from shares.
use Rattle.std.specs.Prelude.{◌≡◌, ◌⊎◌, ℕ, Contains, List, length, min, take}
use Rattle.share_layout.specs.Geometry.{IsGeometry}
use Rattle.share_gathering.specs.Clash.{HaveClash}
use Rattle.share_source.specs.Reads.{Fails, Gives}
use Rattle.share_source.specs.Candidates.{leaves_held}
use Rattle.share_source.specs.Decoded.{Decoding, IsSegmentPart}

-- Two reads of the same shares of one file, wherever their bytes come from: the same of them were
-- read last, by the same leaves.
pub record AreReadAlike {B : Type 0} (one two one_after two_after : Decoding B) : Type 0 where
  pub geometry : two.geometry ≡ one.geometry
  pub numbers : two.candidates.numbers ≡ one.candidates.numbers
  pub reading : two_after.reading ≡ one_after.reading
  pub leaves : (position : ℕ) → Contains one_after.reading position
      → leaves_held two_after.candidates.held position
      ≡ leaves_held one_after.candidates.held position

-- a law: two reads from one offset on, which were decoded from the same of the same shares, bring
-- the same bytes as far as both go, or a block that was read for the one and a block that was read
-- for the other are a clash
abbrev pub ReadsAgree : {B : Type 0} → Gives B → Fails B → Type 0
ReadsAgree {B} gives fails = (one two one_after two_after : Decoding B)
    (offset : ℕ) (bytes others : List ℕ)
    → IsGeometry one.geometry → AreReadAlike one two one_after two_after
    → (first : IsSegmentPart gives fails one offset bytes one_after)
    → (second : IsSegmentPart gives fails two offset others two_after)
    → (take (min (length bytes) (length others)) bytes
    ≡ take (min (length bytes) (length others)) others)
    ⊎ HaveClash first.segment.blocks second.segment.blocks
