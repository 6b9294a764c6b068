use Rattle.std.proofs.Common.{ap, ◌∙◌, arith}
use Rattle.aes_ctr.specs.Aes.{rounds}
use Rattle.aes_ctr.proofs.Aes128.encrypt_block.Goals as goal

pub returns : goal.returns
returns c =
    c.first_block.ensures
    ∙ c.later_rounds.ensures.blocks 0 _ (omega arith) (c.first_round-first.ensures.blocks 0 (omega arith) ∙ ap (λ b. rounds c.args.self.now b 1) (c.repeated.ensures.blocks 0 (omega arith)))
