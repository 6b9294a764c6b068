use Rattle.std.proofs.Common.{◌≡◌, sym, ap, ◌∙◌}
use Rattle.std.specs.Int.{div_ceil}
use Rattle.share_layout.specs.Geometry.{Geometry}
use Rattle.share_layout.proofs.CutLemmas.{cut_lengths}
use Rattle.share_layout.proofs.geometry.Geometry.block_length.Goals as goal

pub returns-clause-value : goal.returns-clause-value
returns-clause-value c =
    let needed : c.from.result ≡ c.args.self.now.needed = c.from.ensures ∙ ap (λ (g : Geometry). g.needed) c.self.view_is in
    c.div_ceil.ensures ∙ (λ i. div_ceil (c.segment_length.ensures.value i) (needed i))
    ∙ sym (cut_lengths c.args.self.now c.args.number c.segment_length.ensures.valid c.requires).shared
