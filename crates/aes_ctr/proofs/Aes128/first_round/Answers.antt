use Rattle.std.proofs.Common.{List, ap, ap₂, ◌∙◌, arith}
use Rattle.aes_ctr.specs.Aes.{round, round_key, rounds, xor_bytes}
use Rattle.aes_ctr.specs.Slices.{block_in}
use Rattle.aes_ctr.proofs.Aes128.first_round.Goals as goal

pub returns-clause-blocks : goal.returns-clause-blocks
unfolding rounds
returns-clause-blocks c j within =
    let key_0 = c.slices.ensures.blocks j within ∙ c.self.invariant.each 0 _ (omega arith) ∙ ap (λ (k : List _). round_key k 0) c.self.view_is in
    let key_1 = c.slices-2.ensures.blocks j within ∙ c.self.invariant.each 1 _ (omega arith) ∙ ap (λ (k : List _). round_key k 1) c.self.view_is in
    c.round.ensures.blocks j within ∙ ap₂ round key_1 (c.add.ensures.blocks j ∙ ap (xor_bytes (block_in c.args.blocks j)) key_0)
