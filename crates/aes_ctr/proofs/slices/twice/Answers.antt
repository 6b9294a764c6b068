use Rattle.aes_ctr.proofs.SpreadLemmas.{both_is}
use Rattle.aes_ctr.proofs.slices.twice.Goals as goal

pub returns : goal.returns
returns c = both_is c.args.block c.requires
