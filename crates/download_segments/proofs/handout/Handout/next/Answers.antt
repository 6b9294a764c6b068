use Rattle.std.proofs.Common.{◌<◌, ◌/◌, subst, ◌∙◌, arith}
use Rattle.share_layout.specs.Geometry.{segment_count}
use Rattle.download_segments.specs.State.{HandoutState}
use Rattle.download_segments.proofs.HandoutLemmas.{next_there}
use Rattle.download_segments.proofs.handout.Handout.next.Goals as goal

pub overflow_cast-result : goal.overflow_cast-result
overflow_cast-result c =
    let g = c.self.inside.geometry in
    let there = next_there g.segment_size g.size c.self.inside.to c.self.inside.reached c.from.result (c.from.ensures ∙ c.segment_size.ensures.value)
    c.segment_size.ensures.valid.some_segment c.if-self.true c.self.invariant.inside in
    omega (arith, there, c.segment_size.ensures.valid.few)

pub returns-then-self-clause-there : goal.returns-then-self-clause-there
returns-then-self-clause-there c =
    let g = c.self.inside.geometry in
    subst (λ (h : HandoutState). c.self.inside.reached / c.from.result < segment_count h.geometry) c.self.view_is
    (next_there g.segment_size g.size c.self.inside.to c.self.inside.reached c.from.result (c.from.ensures ∙ c.segment_size.ensures.value)
    c.segment_size.ensures.valid.some_segment c.if-self.true c.self.invariant.inside)
