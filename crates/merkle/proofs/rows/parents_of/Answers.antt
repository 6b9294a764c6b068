use Rattle.std.proofs.Common.{◌≡◌, ◌+◌, ◌*◌, ℕ, List, [], get_or, ap, ◌∙◌}
use Rattle.std.specs.Fmt.{digits}
use Rattle.lemmas.proofs.Eights.{by_eight}
use Rattle.tagged_hash.specs.Tag.{tag_text}
use Rattle.tagged_hash.specs.TaggedHash.{node_hash, tagged_hash}
use Rattle.tagged_hash.specs.declared.tag.Tag.TheVariants.{TreeNode}
use Rattle.merkle.proofs.rows.parents_of.Goals as goal

pub returns : goal.returns
unfolding digits tag_text
returns c =
    let nodes = c.args.nodes.now in
    let at = λ (q : ℕ). ap (λ (h : List (List ℕ)). get_or h q []) c.tagged_eight.ensures in
    let hash = tagged_hash TreeNode in
    by_eight (λ q. get_or c.tagged_eight.result q [] ≡ node_hash (get_or nodes (2 * q) []) (get_or nodes (2 * q + 1) []))
    (at 0 ∙ ap hash c.pair_text.ensures) (at 1 ∙ ap hash c.pair_text-2.ensures)
    (at 2 ∙ ap hash c.pair_text-3.ensures) (at 3 ∙ ap hash c.pair_text-4.ensures)
    (at 4 ∙ ap hash c.pair_text-5.ensures) (at 5 ∙ ap hash c.pair_text-6.ensures)
    (at 6 ∙ ap hash c.pair_text-7.ensures) (at 7 ∙ ap hash c.pair_text-8.ensures)
