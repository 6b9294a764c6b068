use Rattle.std.proofs.Common.{◌≡◌, ◌^◌, ℕ, List, [], length, drop, get_or, true, ap, refl, subst, sym, ◌∙◌, arith, rules}
use Rattle.std.proofs.lemmas.List.{take_at}
use Rattle.lemmas.proofs.Numbers.{next_power}
use Rattle.merkle.specs.Partial.{is_padding, padding_hash}
use Rattle.merkle.specs.Tree.{height, leaves_among, tree_nodes}
use Rattle.merkle.proofs.OwnNodes.{own_padding}
use Rattle.merkle.proofs.TreeLemmas.{length-tree_nodes, tree_nodes_leaves}
use Rattle.merkle.proofs.tree.Tree.build_as_many.Goals as goal

pub fill_beside-requires-clause-nodes : goal.fill_beside-requires-clause-nodes
fill_beside-requires-clause-nodes c =
    let own : List (List ℕ) = leaves_among c.self.inside.nodes.items c.self.inside.leaf_count in
    let tree : c.deref_mut.result.now ≡ tree_nodes own = c.deref_mut.ensures.value ∙ c.in_ok-nodes.ensures.items ∙ c.deref.ensures.value ∙ c.self.invariant.3 in
    let same : length own ≡ length c.args.leaves.now = ap length c.self.view_is ∙ sym c.requires in
    omega (arith, ap length tree, length-tree_nodes own, next_power (height (length own)), ap (λ (k : ℕ). 2 ^ height k) same)

pub fill_beside-requires-clause-padding : goal.fill_beside-requires-clause-padding
fill_beside-requires-clause-padding c = λ number is.
    let own : List (List ℕ) = leaves_among c.self.inside.nodes.items c.self.inside.leaf_count in
    let tree : c.deref_mut.result.now ≡ tree_nodes own = c.deref_mut.ensures.value ∙ c.in_ok-nodes.ensures.items ∙ c.deref.ensures.value ∙ c.self.invariant.3 in
    let same : length own ≡ length c.args.leaves.now = ap length c.self.view_is ∙ sym c.requires in
    ap (λ (l : List (List ℕ)). get_or l number []) tree
    ∙ subst (λ (k : ℕ). is_padding k number ≡ true → get_or (tree_nodes own) number [] ≡ padding_hash k number) same (own_padding own number) is

pub invariant_of-result : goal.invariant_of-result
invariant_of-result c =
    let leaves = c.args.leaves.now in
    let nodes = c.in_ok-nodes.nodes in
    let count : c.self.inside.leaf_count ≡ length leaves = sym c.self.invariant.2 ∙ ap length c.self.view_is ∙ sym c.requires in
    let full : length c.fill_beside.new.nodes ≡ c.in_ok-nodes.nodes.len = search rules in
    let whole = take_at c.fill_beside.new.nodes (drop (length c.fill_beside.new.nodes) nodes.items) nodes.len full ∙ c.fill_beside.ensures in
    let same = tree_nodes_leaves leaves in
    (c.self.invariant.0, c.self.invariant.1, rw (whole, count, same) refl, rw (whole, count, same) refl)

pub returns : goal.returns
returns c =
    let leaves = c.args.leaves.now in
    let nodes = c.in_ok-nodes.nodes in
    let count : c.self.inside.leaf_count ≡ length leaves = sym c.self.invariant.2 ∙ ap length c.self.view_is ∙ sym c.requires in
    let full : length c.fill_beside.new.nodes ≡ c.in_ok-nodes.nodes.len = search rules in
    let whole = take_at c.fill_beside.new.nodes (drop (length c.fill_beside.new.nodes) nodes.items) nodes.len full ∙ c.fill_beside.ensures in
    rw (whole, count) (tree_nodes_leaves leaves)
