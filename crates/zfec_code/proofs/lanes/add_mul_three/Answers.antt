use Rattle.std.proofs.Common.{◌≡◌, ℕ, ◌+◌, ◌-◌, ◌*◌, ◌<◌, get_or, bit_xor, ap, sym, ◌∙◌, arith, inl, inr}
use Rattle.std.proofs.lemmas.Bool.{cases_lt}
use Rattle.std.proofs.lemmas.Grind.{common_steps, get_or-set_at}
use Rattle.zfec_code.specs.Field.{product}
use Rattle.zfec_code.proofs.LaneLemmas.{length-three, get_or-three, xor_three, plus_three}
use Rattle.zfec_code.proofs.lanes.add_mul_three.Goals as goal

pub add_lanes-requires-clause-long : goal.add_lanes-requires-clause-long
add_lanes-requires-clause-long c =
    length-three c.times.result c.times-in-loop-i.result c.times-in-loop-i-2.result c.times.ensures.size c.times-in-loop-i.ensures.size c.times-in-loop-i-2.ensures.size

pub loop-i-preserved : goal.loop-i-preserved
loop-i-preserved c =
    let l = c.loop-i in
    let a = get_or c.args.factors 0 0 in
    let b = get_or c.args.factors 1 0 in
    let d = get_or c.args.factors 2 0 in
    record {
      written = λ k below. elim (cases_lt k (l.i * 32)) [
        | inl before ↦ c.add_lanes.ensures.below k before ∙ l.invariant.written k before
        | inr here ↦
            let j : ℕ = k - l.i * 32 in
            let within : j < 32 = omega arith in
            let position : l.i * 32 + j ≡ k = omega arith in
            let first : get_or c.times.result j 0 ≡ product a (get_or c.args.x.now k 0) =
            c.times.ensures.each j within ∙ (λ i. product (c.new-by_a.ensures i) (get_or c.args.x.now (position i) 0)) in
            let second : get_or c.times-in-loop-i.result j 0 ≡ product b (get_or c.args.y.now k 0) =
            c.times-in-loop-i.ensures.each j within ∙ (λ i. product (c.new-by_b.ensures i) (get_or c.args.y.now (position i) 0)) in
            let third : get_or c.times-in-loop-i-2.result j 0 ≡ product d (get_or c.args.z.now k 0) =
            c.times-in-loop-i-2.ensures.each j within ∙ (λ i. product (c.new-by_c.ensures i) (get_or c.args.z.now (position i) 0)) in
            c.add_lanes.ensures.added k here (omega arith)
            ∙ ap (bit_xor (get_or l.dst k 0))
            (get_or-three c.times.result c.times-in-loop-i.result c.times-in-loop-i-2.result j c.times.ensures.size c.times-in-loop-i.ensures.size c.times-in-loop-i-2.ensures.size within)
            ∙ (λ i. bit_xor (l.invariant.kept k here i) (bit_xor (bit_xor (first i) (second i)) (third i)))
            ∙ xor_three (get_or c.args.dst.now k 0) (product a (get_or c.args.x.now k 0)) (product b (get_or c.args.y.now k 0)) (product d (get_or c.args.z.now k 0))
      ];
      kept = λ k above. c.add_lanes.ensures.above k (omega arith) ∙ l.invariant.kept k (omega arith);
    }

pub loop-i-2-preserved : goal.loop-i-2-preserved
loop-i-2-preserved c =
    let l = c.loop-i-2 in
    let sum : bit_xor (get_or l.dst l.i 0) (bit_xor (bit_xor c.mul.result c.mul-in-loop-i-2.result) c.mul-in-loop-i-2-2.result)
    ≡ plus_three (get_or c.args.dst.now l.i 0) (get_or c.args.factors 0 0) (get_or c.args.factors 1 0) (get_or c.args.factors 2 0) c.args.x.now c.args.y.now c.args.z.now l.i =
    (λ i. bit_xor (l.invariant.kept l.i (omega arith) i) (bit_xor (bit_xor (c.mul.ensures.value i) (c.mul-in-loop-i-2.ensures.value i)) (c.mul-in-loop-i-2-2.ensures.value i)))
    ∙ xor_three (get_or c.args.dst.now l.i 0) (product (get_or c.args.factors 0 0) (get_or c.args.x.now l.i 0)) (product (get_or c.args.factors 1 0) (get_or c.args.y.now l.i 0)) (product (get_or c.args.factors 2 0) (get_or c.args.z.now l.i 0)) in
    record {
      written = λ k below. elim (cases_lt k l.i) [
        | inl before ↦ grind (arith, common_steps, l.invariant.written k before)
        | inr here ↦
            let same : k ≡ l.i = omega arith in
            get_or-set_at l.dst l.i k _ 0 same (omega arith) ∙ sum
            ∙ ap (λ n. plus_three (get_or c.args.dst.now n 0) (get_or c.args.factors 0 0) (get_or c.args.factors 1 0) (get_or c.args.factors 2 0) c.args.x.now c.args.y.now c.args.z.now n) (sym same)
      ];
      kept = λ k above. grind (arith, common_steps, l.invariant.kept k (omega arith));
    }
