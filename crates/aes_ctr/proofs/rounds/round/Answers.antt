use Rattle.std.proofs.Common.{ap, ◌∙◌}
use Rattle.aes_ctr.specs.Aes.{mix_columns, round, shift_rows, xor_bytes}
use Rattle.aes_ctr.specs.Slices.{block_in}
use Rattle.aes_ctr.proofs.rounds.round.Goals as goal

pub returns-clause-blocks : goal.returns-clause-blocks
unfolding round
returns-clause-blocks c j within =
    c.add.ensures.blocks j
    ∙ ap (λ s. xor_bytes s (block_in c.args.key j))
    (c.mixed.ensures.blocks j within ∙ ap mix_columns (c.shifted.ensures.blocks j ∙ ap shift_rows (c.substituted.ensures.blocks j within)))
