use Rattle.std.proofs.Common.{◌≡◌, ◌+◌, min, ℕ, List, [], ◌∷◌, length, map, get_or, sym, ap, ◌∙◌, arith}
use Rattle.lemmas.proofs.Eights.{by_eight}
use Rattle.tagged_hash.specs.TaggedHash.{share_digest}
use Rattle.upload_core.proofs.pieces.eight_digests.Goals as goal

pub tagged_eight-requires-clause-messages : goal.tagged_eight-requires-clause-messages
tagged_eight-requires-clause-messages c k d below =
    by_eight (λ q. length (get_or (c.share_at.result ∷ c.share_at-2.result ∷ c.share_at-3.result ∷ c.share_at-4.result
    ∷ c.share_at-5.result ∷ c.share_at-6.result ∷ c.share_at-7.result ∷ c.share_at-8.result ∷ []) q d).now ≡ length c.share_at.result.now)
    (c.share_at.ensures.long ∙ sym c.share_at.ensures.long)
    (c.share_at-2.ensures.long ∙ sym c.share_at.ensures.long)
    (c.share_at-3.ensures.long ∙ sym c.share_at.ensures.long)
    (c.share_at-4.ensures.long ∙ sym c.share_at.ensures.long)
    (c.share_at-5.ensures.long ∙ sym c.share_at.ensures.long)
    (c.share_at-6.ensures.long ∙ sym c.share_at.ensures.long)
    (c.share_at-7.ensures.long ∙ sym c.share_at.ensures.long)
    (c.share_at-8.ensures.long ∙ sym c.share_at.ensures.long) k below

pub returns : goal.returns
returns c j below within =
    let all = c.tagged_eight.ensures in
    let at : ℕ → List ℕ = λ i. get_or (map (λ share. share_digest share.items) c.args.shares.now) i [] in
    let none : c.args.first ≡ min c.args.last (c.args.first + 0) = omega arith in
    let same : min c.args.last (c.args.first + j) ≡ c.args.first + j = omega arith in
    by_eight (λ q. get_or c.tagged_eight.result q [] ≡ at (min c.args.last (c.args.first + q)))
    (ap (λ (h : List (List ℕ)). get_or h 0 []) all ∙ c.share_at.ensures.digest ∙ ap at none)
    (ap (λ (h : List (List ℕ)). get_or h 1 []) all ∙ c.share_at-2.ensures.digest ∙ ap at c.min.ensures)
    (ap (λ (h : List (List ℕ)). get_or h 2 []) all ∙ c.share_at-3.ensures.digest ∙ ap at c.min-2.ensures)
    (ap (λ (h : List (List ℕ)). get_or h 3 []) all ∙ c.share_at-4.ensures.digest ∙ ap at c.min-3.ensures)
    (ap (λ (h : List (List ℕ)). get_or h 4 []) all ∙ c.share_at-5.ensures.digest ∙ ap at c.min-4.ensures)
    (ap (λ (h : List (List ℕ)). get_or h 5 []) all ∙ c.share_at-6.ensures.digest ∙ ap at c.min-5.ensures)
    (ap (λ (h : List (List ℕ)). get_or h 6 []) all ∙ c.share_at-7.ensures.digest ∙ ap at c.min-6.ensures)
    (ap (λ (h : List (List ℕ)). get_or h 7 []) all ∙ c.share_at-8.ensures.digest ∙ ap at c.min-7.ensures)
    j below ∙ ap at same
