use Rattle.std.proofs.Common.{◌<◌, [], sym, ◌∙◌, arith}
use Rattle.std.proofs.lemmas.List.{ext_get_or}
use Rattle.merkle.specs.Taking.{empty_leaves}
use Rattle.merkle.proofs.PaddingLemmas.{empty_leaves-at, length-empty_leaves}
use Rattle.merkle.proofs.padding.empty_run.Goals as goal

pub returns : goal.returns
returns c =
    let l = c.loop-group in
    let first = c.args.first in
    ext_get_or [] l.leaves (empty_leaves first 128) (l.invariant.full ∙ sym (length-empty_leaves first 128))
    (λ k below.
    let near : k < 128 = omega (arith, l.invariant.full, below) in
    l.invariant.written k (omega (arith, near, c.loop-group-test.false)) ∙ sym (empty_leaves-at first 128 k near))
