use Rattle.aes_ctr.proofs.RoundLemmas.{doubled_block, doubled_slices}
use Rattle.aes_ctr.proofs.rounds.doubled.Goals as goal

pub returns-clause-slices : goal.returns-clause-slices
returns-clause-slices c = doubled_slices c.args.slices c.requires

pub returns-clause-blocks : goal.returns-clause-blocks
returns-clause-blocks c = doubled_block c.args.slices c.requires
