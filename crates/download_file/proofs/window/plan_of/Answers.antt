use Rattle.std.proofs.Common.{◌≡◌, ◌-◌, ◌/◌, ℕ, arith, ap, ◌∙◌}
use Rattle.download_parts.proofs.NumberLemmas.{div_le}
use Rattle.download_file.proofs.RangeLemmas.{end_within, few_segments}
use Rattle.download_file.proofs.window.plan_of.Goals as goal

pub of-requires-clause-within : goal.of-requires-clause-within
of-requires-clause-within c =
    let g = c.args.geometry.now in
    let size : c.from-size.result ≡ g.segment_size = c.from-size.ensures ∙ c.segment_size.ensures.value in
    let high = end_within g c.args.to c.segment_size.ensures.valid (omega arith) c.requires.inside in
    let same : (c.args.to - 1) / c.from-size.result ≡ (c.args.to - 1) / g.segment_size = ap (λ (n : ℕ). (c.args.to - 1) / n) size in
    omega (arith, high, same)

pub overflow_cast-end : goal.overflow_cast-end
overflow_cast-end c =
    let g = c.args.geometry.now in
    let size : c.from-size.result ≡ g.segment_size = c.from-size.ensures ∙ c.segment_size.ensures.value in
    let high = end_within g c.args.to c.segment_size.ensures.valid (omega arith) c.requires.inside in
    let few = few_segments g c.segment_size.ensures.valid in
    let same : (c.args.to - 1) / c.from-size.result ≡ (c.args.to - 1) / g.segment_size = ap (λ (n : ℕ). (c.args.to - 1) / n) size in
    omega (arith, high, same, few)

pub overflow_cast-first : goal.overflow_cast-first
overflow_cast-first c =
    let g = c.args.geometry.now in
    let size : c.from-size.result ≡ g.segment_size = c.from-size.ensures ∙ c.segment_size.ensures.value in
    let high = end_within g c.args.to c.segment_size.ensures.valid (omega arith) c.requires.inside in
    let few = few_segments g c.segment_size.ensures.valid in
    let same : c.args.from / c.from-size.result ≡ c.args.from / g.segment_size = ap (λ (n : ℕ). c.args.from / n) size in
    let low = div_le c.args.from (c.args.to - 1) g.segment_size c.segment_size.ensures.valid.some_segment (omega (arith, c.requires.some)) in
    omega (arith, high, same, few, low)
