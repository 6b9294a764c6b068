-- How much memory the judging of a share takes, in bytes.
use Rattle.std.specs.Prelude.{ℕ, ◌+◌, ◌*◌}
use Rattle.share_layout.specs.Geometry.{Geometry, block_size, hashes_size, segment_count}
use Rattle.share_layout.specs.Geometry.{tree_size}

-- the most bytes that the judging of a share keeps of it: a hash for each block, eight blocks, the
-- trees and the share hashes; all of it twice, since its lists may have room for as much more
abbrev pub judging_size : Geometry → ℕ
judging_size g =
    2 * (32 * segment_count g + 8 * block_size g + (3 * tree_size g + hashes_size g))
