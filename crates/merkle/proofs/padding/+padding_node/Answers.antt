use Rattle.std.proofs.Common.{◌≡◌, ◌^◌, ◌<◌, ℕ, [], ap, sym, ◌∙◌, arith}
use Rattle.tagged_hash.specs.TaggedHash.{node_hash}
use Rattle.merkle.specs.Tree.{node, padded_to}
use Rattle.merkle.proofs.PaddingLemmas.{node-run, run_inside}
use Rattle.merkle.proofs.TreeLemmas.{node-leaf, node_split, padded_to-empty}
use Rattle.merkle.proofs.padding.+padding_node.Goals as goal

pub returns-then-row-height : goal.returns-then-row-height
returns-then-row-height t c =
    let m = c.args.height in
    let position = c.args.position in
    let hashes = padded_to (2 ^ m) [] in
    let same : c.args.row ≡ m = c.if-row-height.true in
    let below : position < 2 ^ m = rw same at c.requires.there in
    c.empty_leaf.ensures ∙ sym (padded_to-empty (2 ^ m) [] position (omega arith) below) ∙ sym (node-leaf m hashes position)
    ∙ ap (λ (r : ℕ). node m hashes r position) (sym same)

pub node_over_run-requires : goal.node_over_run-requires
node_over_run-requires t c = run_inside 7 c.args.height c.args.row c.args.position c.if-row-height-2.true c.requires.there c.requires.low

pub returns-then-row-height-2 : goal.returns-then-row-height-2
returns-then-row-height-2 t c =
    c.node_over_run.ensures ∙ sym (node-run 7 c.args.height c.args.row c.args.position c.if-row-height-2.true c.requires.there)

pub returns : goal.returns
returns t c =
    let m = c.args.height in
    let hashes = padded_to (2 ^ m) [] in
    let left = c.padding_node-left.ensures in
    let right = c.padding_node-right.ensures in
    c.pair.ensures ∙ (λ i. node_hash (left i) (right i)) ∙ sym (node_split m hashes c.args.row c.args.position (omega arith))
