use Rattle.std.proofs.Common.{ℕ, ◌+◌, ◌*◌, ◌/◌, ◌%◌, [], ◌∷◌, map, arith, sym, ap, ◌∙◌}
use Rattle.lemmas.proofs.Eights.{eight_of}
use Rattle.aes_ctr.specs.Slices.{block_in, moved_in_halves}
use Rattle.aes_ctr.proofs.RoundLemmas.{moved_block}
use Rattle.aes_ctr.proofs.rounds.turned.Goals as goal

-- where byte p of a block comes from
abbrev columns : ℕ → ℕ
columns p = 4 * (p / 4) + (p + 1) % 4

pub returns-clause-blocks : goal.returns-clause-blocks
returns-clause-blocks c j =
    ap (λ s. block_in s j) ((λ i. c.turned_slice.ensures i ∷ c.turned_slice-2.ensures i ∷ c.turned_slice-3.ensures i ∷ c.turned_slice-4.ensures i
    ∷ c.turned_slice-5.ensures i ∷ c.turned_slice-6.ensures i ∷ c.turned_slice-7.ensures i ∷ c.turned_slice-8.ensures i ∷ []) ∙ sym (ap (map (moved_in_halves columns)) (eight_of c.args.slices c.requires.eight)))
    ∙ moved_block columns (λ p lt. omega arith) c.args.slices j
