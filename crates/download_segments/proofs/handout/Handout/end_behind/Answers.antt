use Rattle.std.proofs.Common.{◌≡◌, ◌≤◌, ◌+◌, ◌*◌, ◌/◌, ℕ, ap, arith}
use Rattle.share_layout.proofs.GeometryLemmas.{size_low}
use Rattle.download_segments.specs.State.{HandoutState}
use Rattle.download_segments.proofs.handout.Handout.end_behind.Goals as goal

pub overflow_mul-reached : goal.overflow_mul-reached
overflow_mul-reached c =
    let low = size_low c.self.inside.geometry c.segment_size.ensures.valid in
    let same = ap (λ (h : HandoutState). h.to) c.self.view_is in
    let s : ℕ = c.from-size.result in
    let q : ℕ = c.args.reached / s in
    let before : q * s ≤ c.args.reached = omega arith in
    let next : (q + 1) * s ≡ q * s + s = omega arith in
    omega (arith, low, same, before, next, c.self.invariant.inside)
