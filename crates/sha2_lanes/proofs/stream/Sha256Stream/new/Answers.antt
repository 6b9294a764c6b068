use Rattle.std.proofs.Common.{refl}
use Rattle.sha2.specs.Sha256.{hash_after}
use Rattle.sha2_lanes.specs.Stream.{Holds}
use Rattle.sha2_lanes.proofs.stream.Sha256Stream.new.Goals as goal

pub returns : goal.returns
unfolding Holds hash_after
returns c = (refl, refl, refl)
