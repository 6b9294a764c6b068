use Rattle.std.proofs.Common.{◌≡◌, ◌<◌, [], length, slice_index_or, ap, ◌∙◌, arith}
use Rattle.std.proofs.lemmas.List.{get_or_read}
use Rattle.merkle.specs.Tree.{tree_nodes}
use Rattle.share_verify.specs.Pieces.{joined}
use Rattle.share_gathering.proofs.endings.tree_bytes.Goals as goal

pub returns : goal.returns
returns c = λ low.
    let trees = c.args.trees.now in
    let here : c.min.result ≡ c.args.number = omega (arith, low, c.min.ensures) in
    let inside : c.min.result < length trees = omega (arith, here, low) in
    c.as_flattened.ensures.value ∙ ap joined (c.nodes.ensures ∙ ap tree_nodes (get_or_read trees c.min.result c.index-trees-min.result inside c.index-trees-min.is []))
    ∙ ap (λ n. joined (tree_nodes (slice_index_or trees n []))) here
