use Rattle.std.proofs.Common.{List, sym, subst, ap, ◌∙◌, arith}
use Rattle.lemmas.proofs.Eights.{eight_of}
use Rattle.aes_ctr.specs.Slices.{AreSlices, block_in}
use Rattle.aes_ctr.proofs.key.RoundKey.new.Goals as goal

pub invariant_of-result : goal.invariant_of-result
invariant_of-result c =
    let slices : List (List _) = c.repeated.result in
    let is = c.repeated.ensures.slices in
    let same = eight_of slices is.eight in (
      subst AreSlices same is,
      λ j within.
          ap (λ s. block_in s j) (sym same) ∙ c.repeated.ensures.blocks j within ∙ sym (c.repeated.ensures.blocks 0 (omega arith)) ∙ ap (λ s. block_in s 0) same,
    )

pub returns : goal.returns
returns c =
    ap (λ (s : List (List _)). block_in s 0) (sym (eight_of c.repeated.result c.repeated.ensures.slices.eight)) ∙ c.repeated.ensures.blocks 0 (omega arith)
