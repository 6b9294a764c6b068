use Rattle.std.proofs.Common.{◌≡◌, ap, ◌∙◌}
use Rattle.std.specs.Int.{div_ceil}
use Rattle.share_layout.specs.Geometry.{geometry_with}
use Rattle.share_layout.proofs.GeometryLemmas.{share_low}
use Rattle.share_layout.proofs.LawLemmas.{div_ceil-some}
use Rattle.share_layout.proofs.geometry.Geometry.share_data_size.Goals as goal

pub returns-clause-range : goal.returns-clause-range
returns-clause-range c =
    let g = c.self.inside in
    let v = c.self.invariant in
    let low = share_low (geometry_with g.size g.needed g.total g.segment_size) v in
    let is : c.div_ceil.result ≡ div_ceil g.size g.needed = c.div_ceil.ensures ∙ ap (div_ceil g.size) c.from.ensures in
    let some = div_ceil-some g.size g.needed v.some v.some_needed in
    rw is (some, low)
