-- The segments that a range touches.
use Rattle.std.proofs.Common.{ℕ, ◌+◌, ◌-◌, ◌/◌, ◌^◌, ◌<◌, ◌≤◌, arith}
use Rattle.share_layout.specs.Geometry.{Geometry, IsGeometry, segment_count}
use Rattle.download_parts.proofs.NumberLemmas.{below_ceil}

pub few_segments : (g : Geometry) → IsGeometry g → segment_count g ≤ 2 ^ 20
few_segments g valid = valid.few

-- what is before a position is before the end of the last segment that is touched
pub end_within : (g : Geometry) (to : ℕ) → IsGeometry g → 0 < to → to ≤ g.size → (to - 1) / g.segment_size + 1 ≤ segment_count g
end_within g to valid some inside =
    let low = below_ceil g.size g.segment_size (to - 1) valid.some_segment (omega (arith, some, inside)) in
    omega (arith, low)
