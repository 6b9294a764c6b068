use Rattle.std.proofs.Common.{subst, sym}
use Rattle.share_layout.specs.Geometry.{IsGeometry, geometry_with}
use Rattle.share_layout.proofs.GeometryLemmas.{is_padded}
use Rattle.share_layout.proofs.geometry.Geometry.padded.Goals as goal

pub invariant_of-result : goal.invariant_of-result
invariant_of-result c =
    let g = c.self.inside in
    subst (λ n. IsGeometry (geometry_with n g.needed g.total g.segment_size)) (sym c.rounded_up.ensures.value)
    (is_padded (geometry_with g.size g.needed g.total g.segment_size) c.self.invariant)

pub returns-clause-valid : goal.returns-clause-valid
returns-clause-valid c = invariant_of-result c
