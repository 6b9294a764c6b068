use Rattle.std.proofs.Common.{◌≡◌, ◌∙◌, ◌++◌, ◌∷◌, [], sym, get_or, slice_get, Some}
use Rattle.lemmas.proofs.Positions.{got}
use Rattle.download_file.proofs.BlockLemmas.{numbers_more}
use Rattle.download_file.proofs.group.share_numbers.Goals as goal

pub loop-position-preserved : goal.loop-position-preserved
loop-position-preserved c =
    let i = c.loop-position.position-index in
    let at : slice_get c.args.readers.now (get_or c.args.positions.now i 0) ≡ Some c.index-readers-position.result =
    got c.args.readers.now _ c.index-readers-position.result (c.requires i 0 c.loop-position-test.true) c.index-readers-position.is in
    let number : c.from.result ≡ c.index-readers-position.result.share = c.from.ensures ∙ c.share.ensures in
    c.in_ok-push.ensures.items ∙ (λ j. c.loop-position.invariant j ++ number j ∷ [])
    ∙ sym (numbers_more c.args.readers.now c.args.positions.now i c.index-readers-position.result c.loop-position-test.true at)
