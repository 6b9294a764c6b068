use Rattle.std.proofs.Common.{ℕ, ◌+◌, ◌-◌, length, take, drop, refl, arith}
use Rattle.std.proofs.lemmas.List.{length-drop, length-take}
use Rattle.sources.proofs.PartReading.{ends_early, err-again, part-more}
use Rattle.sources.proofs.part.read_part.Goals as goal

pub loop-done-preserved : goal.loop-done-preserved
loop-done-preserved g c =
    let rest : ℕ = length c.loop-done.out - c.loop-done.done in
    part-more g.S.Source.gives g.S.Source.size g.S.Source.failures c.args.source.now c.loop-done.source c.read_some.new.source c.args.offset c.args.out.now
    c.loop-done.out c.read_some.new.out c.loop-done.done c.in-Ok.count (length c.loop-done.out - c.loop-done.done) c.loop-done.invariant
    (omega (arith, c.read_some.auto.out, length-take rest (drop c.loop-done.done c.loop-done.out), length-drop c.loop-done.done c.loop-done.out)) refl
    (omega (arith, c.in-Ok.ensures.some.1, length-take rest (drop c.loop-done.done c.loop-done.out), length-drop c.loop-done.done c.loop-done.out))
    c.in-Ok.ensures.gives c.in-Ok.ensures.size c.in-Ok.ensures.failures

pub returns-in-Err-clause-ended : goal.returns-in-Err-clause-ended
returns-in-Err-clause-ended g c = λ e.
    ends_early g.S.Source.gives c.args.source.now c.loop-done.source c.read_some.new.source c.args.offset (c.args.offset + c.loop-done.done)
    (c.args.offset + length c.args.out.now) (take c.loop-done.done c.loop-done.out) c.loop-done.invariant.read
    (omega (arith, c.loop-done-test.true, c.loop-done.invariant.long)) (c.in-Err.ensures.ended (err-again c.in-Err.fault _ e))
