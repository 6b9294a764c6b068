-- The geometry by an extension block.
use Rattle.std.proofs.Common.{arith}
use Rattle.ueb.specs.Shape.{AreContents, Contents}
use Rattle.ueb.specs.Limits.{max_segment_size}
use Rattle.share_layout.specs.Geometry.{IsGeometry}
use Rattle.share_layout.proofs.GeometryLemmas.{file_fits, rounded_up_above}
use Rattle.share_verify.specs.CapBlock.{geometry_by}

-- what an extension block says gives a geometry
pub is_geometry : (u : Contents) → AreContents u → IsGeometry (geometry_by u)
is_geometry u valid =
    let file = valid.shape.file in
    let segments = valid.shape.segments in
    record {
      some = omega arith;
      not_large = file_fits u.size u.needed_shares file.some_needed file.not_large;
      some_needed = file.some_needed;
      enough = file.enough;
      shares = file.shares;
      some_segment = segments.some;
      multiple = segments.multiple;
      segment_not_large = omega (arith, segments.not_large, rounded_up_above max_segment_size u.needed_shares file.some_needed);
      within = segments.within;
      few = segments.few;
    }
