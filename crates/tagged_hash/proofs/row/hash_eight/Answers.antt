use Rattle.std.proofs.Common.{◌≡◌, ◌+◌, ◌<◌, min, ℕ, List, [], ◌∷◌, length, get_or, ap, ◌∙◌, arith}
use Rattle.lemmas.proofs.Eights.{by_eight}
use Rattle.tagged_hash.specs.TaggedHash.{tagged_hash}
use Rattle.tagged_hash.proofs.RowLemmas.{hash_at, length-piece}
use Rattle.tagged_hash.proofs.row.hash_eight.Goals as goal

pub tagged_eight-requires-clause-messages : goal.tagged_eight-requires-clause-messages
tagged_eight-requires-clause-messages c k d below =
    let last = c.args.last in
    let long = λ (i : ℕ) (within : i < last + 1). length-piece c.args.text.now c.args.size i (last + 1) within c.requires in
    by_eight (λ q. length (get_or (c.piece.result ∷ c.piece-2.result ∷ c.piece-3.result ∷ c.piece-4.result
    ∷ c.piece-5.result ∷ c.piece-6.result ∷ c.piece-7.result ∷ c.piece-8.result ∷ []) q d).now ≡ c.args.size)
    (ap length c.piece.ensures ∙ long 0 (omega arith))
    (ap length c.piece-2.ensures ∙ long c.min.result (omega arith))
    (ap length c.piece-3.ensures ∙ long c.min-2.result (omega arith))
    (ap length c.piece-4.ensures ∙ long c.min-3.result (omega arith))
    (ap length c.piece-5.ensures ∙ long c.min-4.result (omega arith))
    (ap length c.piece-6.ensures ∙ long c.min-5.result (omega arith))
    (ap length c.piece-7.ensures ∙ long c.min-6.result (omega arith))
    (ap length c.piece-8.ensures ∙ long c.min-7.result (omega arith)) k below

pub returns : goal.returns
returns c j below within =
    let all = c.tagged_eight.ensures in
    let at = hash_at c.args.tag c.args.size c.args.text.now in
    let none : 0 ≡ min c.args.last 0 = omega arith in
    let same : min c.args.last j ≡ j = omega arith in
    by_eight (λ q. get_or c.tagged_eight.result q [] ≡ at (min c.args.last q))
    (ap (λ (h : List (List ℕ)). get_or h 0 []) all ∙ ap (tagged_hash c.args.tag) c.piece.ensures ∙ ap at none)
    (ap (λ (h : List (List ℕ)). get_or h 1 []) all ∙ ap (tagged_hash c.args.tag) c.piece-2.ensures ∙ ap at c.min.ensures)
    (ap (λ (h : List (List ℕ)). get_or h 2 []) all ∙ ap (tagged_hash c.args.tag) c.piece-3.ensures ∙ ap at c.min-2.ensures)
    (ap (λ (h : List (List ℕ)). get_or h 3 []) all ∙ ap (tagged_hash c.args.tag) c.piece-4.ensures ∙ ap at c.min-3.ensures)
    (ap (λ (h : List (List ℕ)). get_or h 4 []) all ∙ ap (tagged_hash c.args.tag) c.piece-5.ensures ∙ ap at c.min-4.ensures)
    (ap (λ (h : List (List ℕ)). get_or h 5 []) all ∙ ap (tagged_hash c.args.tag) c.piece-6.ensures ∙ ap at c.min-5.ensures)
    (ap (λ (h : List (List ℕ)). get_or h 6 []) all ∙ ap (tagged_hash c.args.tag) c.piece-7.ensures ∙ ap at c.min-6.ensures)
    (ap (λ (h : List (List ℕ)). get_or h 7 []) all ∙ ap (tagged_hash c.args.tag) c.piece-8.ensures ∙ ap at c.min-7.ensures)
    j below ∙ ap at same
