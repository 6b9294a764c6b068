use Rattle.std.proofs.Common.{◌≡◌, ◌*◌, [], ◌∷◌, take, drop}
use Rattle.lemmas.proofs.Eights.{by_eight}
use Rattle.sha2_lanes.specs.Lanes.{text}
use Rattle.share_gathering.proofs.shares.all_lanes.Goals as goal

pub returns : goal.returns
returns c = λ j below.
    by_eight (λ q. text (c.lane_of.result ∷ c.lane_of-2.result ∷ c.lane_of-3.result ∷ c.lane_of-4.result ∷ c.lane_of-5.result ∷ c.lane_of-6.result ∷ c.lane_of-7.result ∷ c.lane_of-8.result ∷ []) q ≡ take c.args.size (drop (q * c.args.size) c.args.lanes.now))
    c.lane_of.ensures.value c.lane_of-2.ensures.value c.lane_of-3.ensures.value c.lane_of-4.ensures.value c.lane_of-5.ensures.value c.lane_of-6.ensures.value c.lane_of-7.ensures.value c.lane_of-8.ensures.value j below
