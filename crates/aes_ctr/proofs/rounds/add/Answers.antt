use Rattle.std.proofs.Common.{bit_xor, sym, ap, ap₂, subst, ◌∙◌}
use Rattle.std.specs.Simd.Lanes.{zip2}
use Rattle.lemmas.proofs.Eights.{eight_of}
use Rattle.aes_ctr.specs.Slices.{AreSlices, block_in}
use Rattle.aes_ctr.proofs.RoundLemmas.{sum_block, sum_slices}
use Rattle.aes_ctr.proofs.rounds.add.Goals as goal

pub returns-clause-slices : goal.returns-clause-slices
returns-clause-slices c =
    subst AreSlices (ap₂ (zip2 (zip2 bit_xor)) (eight_of c.args.a c.requires.first.eight) (eight_of c.args.b c.requires.second.eight)) (sum_slices c.args.a c.args.b c.requires.first c.requires.second)

pub returns-clause-blocks : goal.returns-clause-blocks
returns-clause-blocks c j =
    ap (λ s. block_in s j) (sym (ap₂ (zip2 (zip2 bit_xor)) (eight_of c.args.a c.requires.first.eight) (eight_of c.args.b c.requires.second.eight))) ∙ sum_block c.args.a c.args.b c.requires.first c.requires.second j
