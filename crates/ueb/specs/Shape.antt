-- What an extension block says, and the limits of its numbers.
use Rattle.std.specs.Prelude.{◌≡◌, ℕ, ◌*◌, ◌%◌, ◌<◌, ◌≤◌, ◌==◌, if◌then◌else◌}
use Rattle.std.specs.Prelude.{List, ◌++◌, length, codes, decimal}
use Rattle.std.specs.Int.{div_ceil}
use Rattle.ueb.specs.Limits.{min_file_size, max_file_size, max_shares}
use Rattle.ueb.specs.Limits.{max_segment_size, max_segments}

-- four numbers and three hashes, from which the whole text follows
pub record Contents : Type 0 where
  pub needed_shares : ℕ
  pub total_shares : ℕ
  pub size : ℕ
  pub segment_size : ℕ
  pub crypttext_hash : List ℕ
  pub crypttext_root_hash : List ℕ
  pub share_root_hash : List ℕ

-- the least multiple of k that is n or more
abbrev pub rounded_up : ℕ → ℕ → ℕ
rounded_up n k = div_ceil n k * k

-- how many segments a file has; the last one may be shorter
abbrev pub num_segments : ℕ → ℕ → ℕ
num_segments size segment_size = div_ceil size segment_size

-- the length of the last segment: what is left, or a whole one
abbrev pub tail_size : ℕ → ℕ → ℕ
tail_size size segment_size =
    if size % segment_size == 0 then segment_size else size % segment_size

-- the parameters of a code: the size of what it cuts up, shares needed, shares in all
abbrev pub codec_params : ℕ → ℕ → ℕ → List ℕ
codec_params size needed total =
    decimal size ++ (codes "-" ++ (decimal needed ++ (codes "-" ++ decimal total)))

-- a file that has an extension block, and the numbers of its shares
pub record IsFile (needed total size : ℕ) : Type 0 where
  pub some_needed : 0 < needed
  pub enough : needed ≤ total
  pub shares : total ≤ max_shares
  pub not_small : min_file_size ≤ size
  pub not_large : size ≤ max_file_size

-- a size that a file's segments may have
pub record IsSegmentSize (needed size segment_size : ℕ) : Type 0 where
  pub some : 0 < segment_size
  pub multiple : segment_size % needed ≡ 0
  pub not_large : segment_size ≤ max_segment_size
  pub within : segment_size ≤ rounded_up size needed
  pub few : num_segments size segment_size ≤ max_segments

-- the numbers of an extension block
pub record IsShape (needed total size segment_size : ℕ) : Type 0 where
  pub file : IsFile needed total size
  pub segments : IsSegmentSize needed size segment_size

pub record AreContents (c : Contents) : Type 0 where
  pub shape : IsShape c.needed_shares c.total_shares c.size c.segment_size
  pub crypttext_hash : length c.crypttext_hash ≡ 32
  pub crypttext_root_hash : length c.crypttext_root_hash ≡ 32
  pub share_root_hash : length c.share_root_hash ≡ 32
