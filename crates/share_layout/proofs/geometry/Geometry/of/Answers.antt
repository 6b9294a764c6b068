use Rattle.std.proofs.Common.{◌≡◌, ◌∙◌, min, ap, arith}
use Rattle.ueb.specs.Shape.{rounded_up}
use Rattle.share_layout.specs.Geometry.{AreParameters}
use Rattle.share_layout.proofs.GeometryLemmas.{is_geometry_with}
use Rattle.share_layout.proofs.geometry.Geometry.of.Goals as goal

pub invariant_of-result : goal.invariant_of-result
invariant_of-result c =
    let p : AreParameters c.args.size c.args.needed c.args.total c.args.max =
    record { some = omega arith; some_needed = omega arith; enough = omega arith; shares = omega arith; some_max = omega arith; max_not_large = omega arith } in
    let least : c.min.result ≡ min c.args.max c.args.size = omega arith in
    is_geometry_with c.args.size c.args.needed c.args.total c.args.max _ p (omega arith)
    (c.rounded_up-segment_size.ensures.value ∙ ap (λ n. rounded_up n c.args.needed) least) (omega arith)

pub returns-clause-valid : goal.returns-clause-valid
returns-clause-valid c = invariant_of-result c
