-- Which shares are enough for those of a file's encoding to be made anew.
use Rattle.std.specs.Prelude.{◌≡◌, ℕ, ◌<◌, List, length, slice_index}
use Rattle.tagged_hash.specs.Clash.{HasNoClash}
use Rattle.merkle.specs.Inputs.{AreAmong}
use Rattle.cap_text.specs.Cap.{VerifyCapValue, verify_cap_of}
use Rattle.ueb.specs.Shape.{IsShape}
use Rattle.share_layout.specs.Geometry.{geometry_of}
use Rattle.file_encoding.specs.Encoding.{Parameters, encoding_of}
use Rattle.file_encoding.specs.Inputs.{encoding_inputs}
use Rattle.file_encoding.specs.RemadeLaws.{AreTakenAmong, PassDifferent}

-- These strings are enough good shares of a file's encoding: as many numbers pass every check for
-- its verify cap as are needed. And no two hash inputs clash among some, which hold what the
-- encoding hashes and what is hashed for the shares that are taken.
pub record AreEnoughGoodShares (file secret : List ℕ) (p : Parameters) (cap : VerifyCapValue)
    (numbers : List ℕ) (strings : List (List ℕ)) : Type 0 where
  pub bytes : (i : ℕ) → slice_index file i < 256
  pub shape : IsShape p.needed p.total (length file)
      (geometry_of (length file) p.needed p.total p.max_segment).segment_size
  pub is_cap : cap ≡ verify_cap_of (encoding_of file secret p).cap
  pub enough : PassDifferent cap numbers strings cap.needed
  pub inputs : List (List ℕ)
  pub no_clash : HasNoClash inputs
  pub encoded : AreAmong inputs (encoding_inputs file secret p)
  pub taken : AreTakenAmong inputs cap numbers strings
