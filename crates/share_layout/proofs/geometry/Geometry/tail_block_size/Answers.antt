use Rattle.std.proofs.Common.{◌≡◌, sym, ap, ◌∙◌}
use Rattle.std.specs.Int.{div_ceil}
use Rattle.share_layout.specs.Geometry.{Geometry, tail_length}
use Rattle.share_layout.proofs.GeometryLemmas.{rounded_up-div}
use Rattle.share_layout.proofs.geometry.Geometry.tail_block_size.Goals as goal

pub returns-clause-value : goal.returns-clause-value
returns-clause-value c =
    let needed : c.from.result ≡ c.args.self.now.needed = c.from.ensures ∙ ap (λ (g : Geometry). g.needed) c.self.view_is in
    c.div_ceil.ensures ∙ (λ i. div_ceil (c.tail_length.ensures.value i) (needed i))
    ∙ sym (rounded_up-div (tail_length c.args.self.now) c.args.self.now.needed c.tail_length.ensures.valid.some_needed)
