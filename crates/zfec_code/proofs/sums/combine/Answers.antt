use Rattle.std.proofs.Common.{rules, ◌≡◌, ◌+◌, ◌*◌, length, get_or, ap, sym, ◌∙◌, arith, replicate}
use Rattle.std.proofs.lemmas.List.{get_or-replicate}
use Rattle.zfec_code.proofs.Lagrange.{weighted_sum-zero}
use Rattle.zfec_code.proofs.RowLemmas.{AreSums-added, AreSums-added_three}
use Rattle.zfec_code.proofs.sums.combine.Goals as goal

pub loop-i-init : goal.loop-i-init
loop-i-init g c t h =
    let zeros : c.fill.new.self ≡ replicate (length c.args.out.now) 0 = c.fill.ensures.after (search rules) in
    ap (λ s. get_or s t 0) zeros ∙ get_or-replicate (length c.args.out.now) t 0 0 (omega (arith, c.fill.ensures.len)) ∙ sym (weighted_sum-zero _ _)

pub loop-i-preserved : goal.loop-i-preserved
loop-i-preserved g c =
    let n = c.loop-i.i * 3 in
    AreSums-added_three (λ m. get_or c.args.row.now m 0) (g.B.Blocks.block c.args.blocks.now) (c.loop-i.i * 3) ((c.loop-i.i + 1) * 3) c.loop-i.out c.add_mul_three.new.dst
    c.get.result.now c.get-in-loop-i.result.now c.get-in-loop-i-2.result.now (omega arith) c.add_mul_three.auto.dst
    c.get.ensures c.get-in-loop-i.ensures c.get-in-loop-i-2.ensures c.loop-i.invariant c.add_mul_three.ensures

pub loop-j-preserved : goal.loop-j-preserved
loop-j-preserved g c =
    AreSums-added (λ m. get_or c.args.row.now m 0) (g.B.Blocks.block c.args.blocks.now) c.loop-j.j c.loop-j.out c.add_mul.new.dst c.get-in-loop-j.result.now
    c.add_mul.auto.dst c.get-in-loop-j.ensures c.loop-j.invariant c.add_mul.ensures
