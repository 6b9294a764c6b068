-- The limits of the format.
use Rattle.std.specs.Prelude.{ℕ, ◌^◌}

-- the size of the smallest file that has an extension block, in bytes
abbrev pub min_file_size : ℕ
min_file_size = 56

-- the size of the greatest file, in bytes
abbrev pub max_file_size : ℕ
max_file_size = 2 ^ 40

-- the most shares of a file
abbrev pub max_shares : ℕ
max_shares = 256

-- the size of the greatest segment that an extension block tells, in bytes
abbrev pub max_segment_size : ℕ
max_segment_size = 1048831

-- the most segments of a file
abbrev pub max_segments : ℕ
max_segments = 1048576

-- the most bytes of an extension block
abbrev pub max_length : ℕ
max_length = 4096
