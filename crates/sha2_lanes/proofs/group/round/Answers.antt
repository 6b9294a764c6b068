use Rattle.sha2_lanes.proofs.GroupLemmas.{round_of}
use Rattle.sha2_lanes.proofs.group.round.Goals as goal

pub returns : goal.returns
returns c = λ k word e. round_of c.args.v _ _ _ _ k word c.args.sum e c.big_sigma1.ensures c.ch.ensures c.big_sigma0.ensures c.maj.ensures
