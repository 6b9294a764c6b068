use Rattle.std.proofs.Common.{refl}
use Rattle.sha2_lanes.proofs.StreamLemmas.{holds_groups}
use Rattle.sha2_lanes.proofs.stream.Sha256Stream.take_groups.Goals as goal

pub returns : goal.returns
returns c = λ m groups held edge long eh.
    holds_groups c.args.self.now _ m groups _ c.args.count held edge long eh c.copy_from_slice.ensures.after refl
