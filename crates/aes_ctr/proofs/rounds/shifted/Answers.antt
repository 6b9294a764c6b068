use Rattle.std.proofs.Common.{ℕ, ◌+◌, ◌*◌, ◌%◌, [], ◌∷◌, map, mod-lt, pow_pos, sym, ap, ◌∙◌}
use Rattle.lemmas.proofs.Eights.{eight_of}
use Rattle.aes_ctr.specs.Slices.{block_in, moved_in_halves}
use Rattle.aes_ctr.proofs.RoundLemmas.{moved_block}
use Rattle.aes_ctr.proofs.rounds.shifted.Goals as goal

-- where byte p of a block comes from
abbrev rows : ℕ → ℕ
rows p = (p + 4 * (p % 4)) % 16

pub returns-clause-blocks : goal.returns-clause-blocks
returns-clause-blocks c j =
    ap (λ s. block_in s j) ((λ i. c.shifted_slice.ensures i ∷ c.shifted_slice-2.ensures i ∷ c.shifted_slice-3.ensures i ∷ c.shifted_slice-4.ensures i
    ∷ c.shifted_slice-5.ensures i ∷ c.shifted_slice-6.ensures i ∷ c.shifted_slice-7.ensures i ∷ c.shifted_slice-8.ensures i ∷ []) ∙ sym (ap (map (moved_in_halves rows)) (eight_of c.args.slices c.requires.eight)))
    ∙ moved_block rows (λ p lt. mod-lt (p + 4 * (p % 4)) (pow_pos 4)) c.args.slices j
