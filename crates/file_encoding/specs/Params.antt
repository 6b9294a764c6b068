-- What a user chooses for an upload.
use Rattle.std.specs.Prelude.{ℕ, ◌<◌, ◌≤◌}
use Rattle.ueb.specs.Limits.{max_file_size, max_segments, max_shares}
use Rattle.share_layout.specs.Geometry.{geometry_of, segment_count}
use Rattle.file_encoding.specs.Encoding.{Parameters}

-- how many shares are needed, on how many servers they have to be, how many there are, and the
-- greatest length of a segment
pub record UploadParameters : Type 0 where
  pub needed : ℕ
  pub happy : ℕ
  pub total : ℕ
  pub max_segment : ℕ

-- such numbers may be chosen
pub record AreChosen (needed happy total max_segment : ℕ) : Type 0 where
  pub some_needed : 0 < needed
  pub enough : needed ≤ total
  pub shares : total ≤ max_shares
  pub some_happy : 0 < happy
  pub reachable : happy ≤ total
  pub some_segment : 0 < max_segment
  pub segment_not_large : max_segment ≤ 1048576

-- what of it a file's encoding depends on
abbrev pub parameters_of : UploadParameters → Parameters
parameters_of p = record { needed = p.needed; total = p.total; max_segment = p.max_segment }

-- how many segments a file of this size has
abbrev pub segments_for : ℕ → UploadParameters → ℕ
segments_for size p = segment_count (geometry_of size p.needed p.total p.max_segment)

-- a file of this size has an encoding
pub record IsEncodable (size : ℕ) (p : UploadParameters) : Type 0 where
  pub not_large : size ≤ max_file_size
  pub few : segments_for size p ≤ max_segments

-- it is not too large, but has too many segments
pub record HasTooManySegments (size : ℕ) (p : UploadParameters) : Type 0 where
  pub not_large : size ≤ max_file_size
  pub many : max_segments < segments_for size p
