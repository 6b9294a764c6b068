-- Room for the segments and the blocks that are made at once.
use Rattle.std.specs.Prelude.{◌≡◌, ◌*◌, length}
use Rattle.share_layout.specs.Geometry.{Geometry, block_size}
use Rattle.share_gathering.specs.Groups.{at_once}
use Rattle.share_gathering.specs.declared.buffers.Buffers.{Buffers}

-- they have room for eight segments with their padding, and for the blocks of eight shares that are
-- made at once
pub record AreBuffers (g : Geometry) (b : Buffers) : Type 0 where
  pub segments : length b.segments.items ≡ 8 * g.segment_size
  pub lanes : length b.lanes.items ≡ 8 * (at_once g * block_size g)
