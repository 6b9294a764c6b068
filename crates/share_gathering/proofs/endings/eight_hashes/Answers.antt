use Rattle.std.proofs.Common.{◌≡◌, ℕ, ◌+◌, ◌<◌, List, [], ◌∷◌, length, map, slice_index_or, ap, ◌∙◌, arith}
use Rattle.lemmas.proofs.Eights.{by_eight}
use Rattle.sha2_lanes.specs.Lanes.{text}
use Rattle.share_gathering.proofs.endings.eight_hashes.Goals as goal

pub returns : goal.returns
returns c = λ j below within.
    let at : ℕ → List ℕ = λ n. slice_index_or (map (λ (h : _). h.items) c.args.hashes.now) n [] in
    let zero : c.args.first ≡ c.args.first + 0 = omega arith in
    let first_is : at c.args.first ≡ at (c.args.first + 0) = ap at zero in
    by_eight (λ q. c.args.first + q < length c.args.hashes.now → text (c.hashes_at.result ∷ c.hashes_at-2.result ∷ c.hashes_at-3.result ∷ c.hashes_at-4.result ∷ c.hashes_at-5.result ∷ c.hashes_at-6.result ∷ c.hashes_at-7.result ∷ c.hashes_at-8.result ∷ []) q ≡ at (c.args.first + q))
    (λ low. c.hashes_at.ensures (omega (arith, low)) ∙ first_is)
    (λ low. c.hashes_at-2.ensures (omega (arith, low)))
    (λ low. c.hashes_at-3.ensures (omega (arith, low)))
    (λ low. c.hashes_at-4.ensures (omega (arith, low)))
    (λ low. c.hashes_at-5.ensures (omega (arith, low)))
    (λ low. c.hashes_at-6.ensures (omega (arith, low)))
    (λ low. c.hashes_at-7.ensures (omega (arith, low)))
    (λ low. c.hashes_at-8.ensures (omega (arith, low))) j below within
