use Rattle.std.proofs.Common.{◌≡◌, ℕ, ◌+◌, ◌*◌, ◌<◌, min, refl, subst, ◌∙◌, arith, ◌-◌, ◌≤◌, ap, sym}
use Rattle.std.proofs.Math.Nat.{add-mul, mul_comm, mul-le-mul_right}
use Rattle.std.specs.Int.{div_ceil}
use Rattle.std.proofs.lemmas.Grind.{div_ceil_times}
use Rattle.share_layout.proofs.CutLemmas.{whole_segments}
use Rattle.share_gathering.specs.Groups.{at_once}
use Rattle.share_gathering.proofs.GroupSteps.{few_at_once}
use Rattle.share_layout.specs.Geometry.{Geometry, segment_count}
use Rattle.sources.specs.Source.{HasFailedMore}
use Rattle.block_making.proofs.ReadRuns.{ended-later}
use Rattle.file_streaming.proofs.RemakePass.{IsRemadeTo, remade-all, remade-begin, remade-more, told-again}
use Rattle.share_gathering.specs.declared.groups.Group.{Group}
use Rattle.file_streaming.proofs.remaking.remake.Goals as goal

-- the end of a group, and where the next begins
end_of : (n before after total first count : ℕ) → before < total → after ≡ before + n → first ≡ before → count ≡ min (total - first) n → first + count ≡ min after total
end_of n before after total first count within next same is = omega (arith, within, next, same, is)

pub loop-number-init : goal.loop-number-init
loop-number-init g c =
    let begun = c.in_ok-remaking.ensures.begun in
    record {
      to =
          (let none : 0 ≡ min (at_once c.args.geometry.now * 0) (segment_count c.args.geometry.now) = omega (arith, mul_comm (at_once c.args.geometry.now) 0) in
          subst (λ n. IsRemadeTo g.S.Source.gives c.args.source.now c.args.geometry.now c.args.size n c.in_ok-remaking.remaking c.args.source.now) none
          (remade-begin g.S.Source.gives c.args.source.now c.args.geometry.now c.args.size c.in_ok-remaking.remaking c.in_ok-remaking.ensures.none begun));
      shares = begun.count;
      wholes = begun.groups;
      size = refl;
      failures = refl;
    }

pub returns-in_err-remake_group-clause-ended : goal.returns-in_err-remake_group-clause-ended
returns-in_err-remake_group-clause-ended g c = λ e.
    let to = c.loop-number.invariant.to in
    let size : ℕ = c.args.geometry.now.size in
    ended-later g.S.Source.gives c.args.source.now c.loop-number.source c.remake_group.new.source 0 size size to.text to.read
    (c.in_err-remake_group.ensures.ended (told-again c.from_residual-in_err-remake_group.result _ _ c.from_residual-in_err-remake_group.ensures.1 e)) (omega arith)

pub returns-in_err-remake_group-clause-failed : goal.returns-in_err-remake_group-clause-failed
returns-in_err-remake_group-clause-failed g c = λ e.
    subst (λ n. HasFailedMore n (g.S.Source.failures c.remake_group.new.source)) c.loop-number.invariant.failures
    (c.in_err-remake_group.ensures.failed (told-again c.from_residual-in_err-remake_group.result _ _ c.from_residual-in_err-remake_group.ensures.1 e))

pub of-group-requires : goal.of-group-requires
of-group-requires g c =
    let geometry : Geometry = c.args.geometry.now in
    let n : ℕ = at_once geometry in
    let number : ℕ = c.loop-number.number in
    let count : c.div_ceil-number-end.result ≡ div_ceil (segment_count geometry) n =
    c.div_ceil-number-end.ensures ∙ λ p. div_ceil (c.segment_count.ensures.value p) (c.segments_at_once-at_once.ensures.value p) in
    subst (λ m. m < segment_count geometry) (mul_comm number n ∙ ap (λ m. m * number) (sym c.segments_at_once-at_once.ensures.value))
    (whole_segments (segment_count geometry) n number (few_at_once geometry).0 (omega (arith, c.loop-number-test.true, c.loop-number.auto.number-end, count)))

pub loop-number-preserved : goal.loop-number-preserved
loop-number-preserved g c =
    let geometry : Geometry = c.args.geometry.now in
    let number : ℕ = c.loop-number.number in
    let n : ℕ = at_once geometry in
    let count : c.div_ceil-number-end.result ≡ div_ceil (segment_count geometry) n =
    c.div_ceil-number-end.ensures ∙ λ p. div_ceil (c.segment_count.ensures.value p) (c.segments_at_once-at_once.ensures.value p) in
    let within : n * number < segment_count geometry =
    subst (λ m. m < segment_count geometry) (mul_comm number n)
    (whole_segments (segment_count geometry) n number (few_at_once geometry).0 (omega (arith, c.loop-number-test.true, c.loop-number.auto.number-end, count))) in
    let group : Group = c.of-group.result in
    let first : group.first ≡ n * number = c.of-group.ensures.first ∙ ap (λ m. m * number) c.segments_at_once-at_once.ensures.value in
    let before : min (n * number) (segment_count geometry) ≡ group.first = omega (arith, within, first) in
    let next : n * (number + 1) ≡ n * number + n = mul_comm n (number + 1) ∙ add-mul number 1 n ∙ (let e : number * n + 1 * n ≡ number * n + n = omega arith in e) ∙ ap (λ m. m + n) (mul_comm number n) in
    let after : group.first + group.count ≡ min (n * (number + 1)) (segment_count geometry) = end_of n (n * number) (n * (number + 1)) (segment_count geometry) group.first group.count within next first c.of-group.ensures.is.count in
    record {
      to =
          subst (λ n. IsRemadeTo g.S.Source.gives c.args.source.now geometry c.args.size n c.remake_group.new.remaking c.remake_group.new.source) after
          (remade-more g.S.Source.gives c.args.source.now geometry c.args.size group c.loop-number.remaking c.remake_group.new.remaking
          c.loop-number.source c.remake_group.new.source c.of-group.ensures.is
          (c.requires.plain group.first c.of-group.ensures.is.some)
          (subst (λ n. IsRemadeTo g.S.Source.gives c.args.source.now geometry c.args.size n c.loop-number.remaking c.loop-number.source) before
          c.loop-number.invariant.to)
          c.in_ok-remake_group.ensures.remade);
      shares = c.in_ok-remake_group.ensures.shares;
      wholes = c.in_ok-remake_group.ensures.wholes;
      size = c.in_ok-remake_group.ensures.size ∙ c.loop-number.invariant.size;
      failures = c.in_ok-remake_group.ensures.failures ∙ c.loop-number.invariant.failures;
    }

pub returns-clause-remade : goal.returns-clause-remade
returns-clause-remade g c =
    let n : ℕ = at_once c.args.geometry.now in
    let number : ℕ = c.loop-number.number in
    let groups = (div_ceil_times (segment_count c.args.geometry.now) n (few_at_once c.args.geometry.now).0).0 in
    let count : c.div_ceil-number-end.result ≡ div_ceil (segment_count c.args.geometry.now) n =
    c.div_ceil-number-end.ensures ∙ λ p. div_ceil (c.segment_count.ensures.value p) (c.segments_at_once-at_once.ensures.value p) in
    let over : div_ceil (segment_count c.args.geometry.now) n * n ≤ number * n =
    mul-le-mul_right {m = div_ceil (segment_count c.args.geometry.now) n} {n = number} n (omega (arith, c.loop-number-test.false, c.loop-number.auto.number-end, count)) in
    let all : min (n * number) (segment_count c.args.geometry.now) ≡ segment_count c.args.geometry.now = omega (arith, groups, over, mul_comm n number) in
    remade-all g.S.Source.gives c.args.source.now c.args.geometry.now c.args.size (min (n * number) (segment_count c.args.geometry.now))
    c.loop-number.remaking c.loop-number.source c.segment_count.ensures.valid all c.loop-number.invariant.to
