use Rattle.std.proofs.Common.{◌∙◌}
use Rattle.share_layout.specs.Geometry.{HasGeometry}
use Rattle.share_verify.specs.CapBlock.{geometry_by}
use Rattle.share_verify.proofs.GeometryOfUeb.{is_geometry}
use Rattle.share_verify.proofs.reading.geometry_of.Goals as goal

pub unreachable-requires : goal.unreachable-requires
unreachable-requires c =
    let u = c.args.ueb.now in
    let valid = c.size.ensures.valid in
    let own = c.geometry_gives_itself.ensures (geometry_by u) (is_geometry u valid) valid.shape.file.not_large valid.shape.segments.not_large in
    let has : HasGeometry c.size.result c.needed_shares.result c.total_shares.result c.segment_size.result =
    rw (c.size.ensures.value, c.needed_shares.ensures.value, c.total_shares.ensures.value, c.segment_size.ensures.value) own.0 in
    let found = c.of.ensures.complete has in
    let refused = c.in-Err.is in
    cc

pub returns : goal.returns
returns c =
    let u = c.args.ueb.now in
    let valid = c.size.ensures.valid in
    let own = c.geometry_gives_itself.ensures (geometry_by u) (is_geometry u valid) valid.shape.file.not_large valid.shape.segments.not_large in
    c.in-Ok.ensures.given
    ∙ rw (c.size.ensures.value, c.needed_shares.ensures.value, c.total_shares.ensures.value, c.segment_size.ensures.value) own.1
