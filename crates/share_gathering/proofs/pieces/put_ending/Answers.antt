use Rattle.std.proofs.Common.{◌≡◌, ℕ, ◌+◌, List, ◌++◌, length, take, ap, ◌∙◌, arith}
use Rattle.std.proofs.lemmas.List.{length-take}
use Rattle.block_making.specs.Making.{put_at}
use Rattle.block_making.proofs.PieceTexts.{put-twice}
use Rattle.share_gathering.proofs.pieces.put_ending.Goals as goal

pub returns : goal.returns
returns c =
    let width : ℕ = c.spelled_length-width.result.1 in
    let number : List ℕ = take width c.spelled_length-width.result.0 in
    let block : List ℕ = c.args.extension_block.now in
    let long : width ≡ length number = omega (arith, length-take width c.spelled_length-width.result.0) in
    put-twice c.args.begin c.args.offset number block c.args.out.now c.put_part.new.out c.put_part-2.new.out c.put_part.ensures
    (c.put_part-2.ensures ∙ ap (λ n. put_at (c.args.begin + n) block c.args.offset c.put_part.new.out) long)
    ∙ ap (λ (n : List ℕ). put_at c.args.begin (n ++ block) c.args.offset c.args.out.now) c.spelled_length-width.ensures.text
