use Rattle.std.proofs.Common.{ℕ, List, map, ap, ap₂, ◌∙◌}
use Rattle.aes_ctr.specs.Aes.{xor_bytes}
use Rattle.aes_ctr.specs.Byte.{times_x}
use Rattle.aes_ctr.specs.Slices.{bits_in, block_in, number_of, turned_columns}
use Rattle.aes_ctr.proofs.Bytes.{byte_below}
use Rattle.aes_ctr.proofs.Mixing.{mixed_columns}
use Rattle.aes_ctr.proofs.rounds.mixed.Goals as goal

pub returns-clause-blocks : goal.returns-clause-blocks
returns-clause-blocks c j within =
    let slices : List (List ℕ) = c.args.slices in
    let below = c.turned-below.ensures.blocks j in
    let sums = c.add-sums.ensures.blocks j ∙ ap (xor_bytes (block_in slices j)) below in
    c.add-2.ensures.blocks j
    ∙ ap₂ xor_bytes
    (c.add.ensures.blocks j ∙ ap₂ xor_bytes (c.doubled.ensures.blocks j within ∙ ap (map times_x) sums) below)
    (c.turned-2.ensures.blocks j ∙ ap turned_columns (c.turned.ensures.blocks j ∙ ap turned_columns sums))
    ∙ mixed_columns (λ p. number_of (bits_in slices j p)) (byte_below slices c.requires.eight j)
