use Rattle.std.proofs.Common.{arith}
use Rattle.std.proofs.lemmas.Option.{slice_get_within}
use Rattle.proved_parts.proofs.Rising.{rise_steps}
use Rattle.proved_parts.proofs.clash.rise.Goals as goal

pub returns : goal.returns
returns c _ =
    rise_steps c.args.parts.now
    (λ k p q here there.
    c.loop-i.invariant k p q (let inside = slice_get_within c.args.parts.now _ q there in omega (arith, inside, c.loop-i-test.false)) here there)
