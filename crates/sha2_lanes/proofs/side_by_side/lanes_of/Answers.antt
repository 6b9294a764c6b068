use Rattle.std.proofs.Common.{◌≡◌, ◌*◌, ◌∷◌, [], List, ℕ, drop, get_or, take, ◌∙◌}
use Rattle.lemmas.proofs.Eights.{by_eight}
use Rattle.sha2_lanes.proofs.side_by_side.lanes_of.Goals as goal

pub returns-clause-lanes : goal.returns-clause-lanes
returns-clause-lanes c j below =
    let h : List ℕ = c.args.hashes.now in
    c.transposed.ensures.lanes j below
    ∙ by_eight (λ q. get_or (c.hash_of.result ∷ c.hash_of-2.result ∷ c.hash_of-3.result ∷ c.hash_of-4.result
    ∷ c.hash_of-5.result ∷ c.hash_of-6.result ∷ c.hash_of-7.result ∷ c.hash_of-8.result ∷ []) q [] ≡ take 8 (drop (8 * q) h))
    c.hash_of.ensures.words c.hash_of-2.ensures.words c.hash_of-3.ensures.words c.hash_of-4.ensures.words
    c.hash_of-5.ensures.words c.hash_of-6.ensures.words c.hash_of-7.ensures.words c.hash_of-8.ensures.words j below
