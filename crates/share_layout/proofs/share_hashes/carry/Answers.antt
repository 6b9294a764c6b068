use Rattle.std.proofs.Common.{◌∙◌, ap, get_or, length, rules, arith, length-drop}
use Rattle.std.specs.Int.{w16, to_be_bytes}
use Rattle.std.proofs.lemmas.List.{take_rest}
use Rattle.merkle.specs.Tree.{needed_numbers}
use Rattle.merkle.proofs.NumberLemmas.{length-needed_numbers}
use Rattle.share_layout.proofs.NumberLemmas.{left_more, left_none}
use Rattle.share_layout.proofs.share_hashes.carry.Goals as goal

pub loop-offset-preserved : goal.loop-offset-preserved
loop-offset-preserved c =
    let numbers = needed_numbers c.args.height c.args.leaf in
    let e = take_rest c.loop-offset.rest.now 34 in
    left_more numbers c.args.hashes.now c.loop-offset.rest.now _ c.loop-offset.offset
    (omega (arith, length-needed_numbers c.args.height c.args.leaf)) c.loop-offset.invariant
    (c.has_number.ensures.0 (search rules) ∙ ap (to_be_bytes w16) (c.needed_number-number.ensures.value
    ∙ ap (λ leaf. get_or (needed_numbers c.args.height leaf) c.loop-offset.offset 0) c.from.ensures)) e
    (omega (arith, ap length e, length-drop 34 c.loop-offset.rest.now, c.loop-offset.invariant.long))

pub returns : goal.returns
returns c =
    let whole = left_none (needed_numbers c.args.height c.args.leaf) c.args.hashes.now c.loop-offset.rest.now c.loop-offset.offset
    (omega (arith, length-needed_numbers c.args.height c.args.leaf)) (omega arith) c.loop-offset.invariant in
    (λ _. whole, λ _. search rules)
