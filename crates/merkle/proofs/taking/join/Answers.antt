use Rattle.std.proofs.Common.{◌+◌, nat_eq, subst, sym, ◌∙◌, arith}
use Rattle.std.proofs.Math.Nat.{pow-le-pow_right}
use Rattle.std.specs.HashMap.{get}
use Rattle.lemmas.proofs.Numbers.{next_power}
use Rattle.merkle.specs.Partial.{padding, parent}
use Rattle.merkle.specs.Taking.{IsOther, has_other}
use Rattle.merkle.specs.Tree.{height}
use Rattle.merkle.proofs.HeightLemmas.{height_below}
use Rattle.merkle.proofs.taking.join.Goals as goal

pub overflow_add-above-2 : goal.overflow_add-above-2
overflow_add-above-2 c =
    let low = height_below c.args.padded.now 20 c.requires.few in
    omega (arith, next_power (height c.args.padded.now), pow-le-pow_right {n = 2} (omega arith) {i = height c.args.padded.now + 1} {j = 21} (omega (arith, low)))

pub returns-clause-refused : goal.returns-clause-refused
returns-clause-refused c = λ e.
    let pair = c.pair-hash.ensures in
    let isother = subst (IsOther (padding c.args.padded.now) (get nat_eq c.args.nodes.now) (parent c.args.number)) pair (c.add.ensures.refused e) in
    has_other c.in-Some-Some.left c.in-Some-Some.right (sym c.known_node-left.ensures ∙ c.in-Some-Some.is-0)
    (sym c.known_node-right.ensures ∙ c.in-Some-Some.is-1) isother
