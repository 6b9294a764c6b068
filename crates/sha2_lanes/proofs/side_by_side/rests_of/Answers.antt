use Rattle.std.proofs.Common.{◌≡◌, [], ◌∷◌, drop, get_or}
use Rattle.lemmas.proofs.Eights.{by_eight}
use Rattle.sha2_lanes.specs.Lanes.{text}
use Rattle.sha2_lanes.proofs.side_by_side.rests_of.Goals as goal

pub returns : goal.returns
returns c = λ j below.
    by_eight (λ q. text (c.rest.result ∷ c.rest-2.result ∷ c.rest-3.result ∷ c.rest-4.result ∷ c.rest-5.result ∷ c.rest-6.result ∷ c.rest-7.result ∷ c.rest-8.result ∷ []) q
    ≡ drop (get_or c.args.starts.now q 0) (text c.args.pieces.now q))
    c.rest.ensures c.rest-2.ensures c.rest-3.ensures c.rest-4.ensures c.rest-5.ensures c.rest-6.ensures c.rest-7.ensures c.rest-8.ensures j below
