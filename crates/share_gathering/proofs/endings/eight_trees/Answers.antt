use Rattle.std.proofs.Common.{◌≡◌, ℕ, ◌+◌, ◌<◌, List, [], ◌∷◌, length, slice_index_or, ap, ◌∙◌, arith}
use Rattle.lemmas.proofs.Eights.{by_eight}
use Rattle.sha2_lanes.specs.Lanes.{text}
use Rattle.merkle.specs.Tree.{tree_nodes}
use Rattle.share_verify.specs.Pieces.{joined}
use Rattle.share_gathering.proofs.endings.eight_trees.Goals as goal

pub returns : goal.returns
returns c = λ j below within.
    let at : ℕ → List ℕ = λ n. joined (tree_nodes (slice_index_or c.args.trees.now n [])) in
    let zero : c.args.first ≡ c.args.first + 0 = omega arith in
    let first_is : at c.args.first ≡ at (c.args.first + 0) = ap at zero in
    by_eight (λ q. c.args.first + q < length c.args.trees.now → text (c.tree_bytes.result ∷ c.tree_bytes-2.result ∷ c.tree_bytes-3.result ∷ c.tree_bytes-4.result ∷ c.tree_bytes-5.result ∷ c.tree_bytes-6.result ∷ c.tree_bytes-7.result ∷ c.tree_bytes-8.result ∷ []) q ≡ at (c.args.first + q))
    (λ low. c.tree_bytes.ensures (omega (arith, low)) ∙ first_is)
    (λ low. c.tree_bytes-2.ensures (omega (arith, low)))
    (λ low. c.tree_bytes-3.ensures (omega (arith, low)))
    (λ low. c.tree_bytes-4.ensures (omega (arith, low)))
    (λ low. c.tree_bytes-5.ensures (omega (arith, low)))
    (λ low. c.tree_bytes-6.ensures (omega (arith, low)))
    (λ low. c.tree_bytes-7.ensures (omega (arith, low)))
    (λ low. c.tree_bytes-8.ensures (omega (arith, low))) j below within
