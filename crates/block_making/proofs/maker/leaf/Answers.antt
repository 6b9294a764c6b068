use Rattle.std.proofs.Common.{◌≡◌, ℕ, ◌+◌, ◌-◌, ◌/◌, ◌<◌, ◌^◌, List, [], length, drop, get_or, ap, sym, subst, ◌∙◌, arith}
use Rattle.std.proofs.lemmas.List.{get_or-drop, get_or-take}
use Rattle.lemmas.proofs.Numbers.{next_power}
use Rattle.merkle.specs.Tree.{height, tree_nodes}
use Rattle.merkle.proofs.HeightLemmas.{height_room}
use Rattle.merkle.proofs.TreeLemmas.{length-tree_nodes, tree_nodes_leaves}
use Rattle.block_making.proofs.maker.leaf.Goals as goal

-- the leaves begin in the middle of the nodes
half : (leaves : List (List ℕ)) → length (tree_nodes leaves) / 2 ≡ 2 ^ height (length leaves) - 1
half leaves = omega (arith, length-tree_nodes leaves, next_power (height (length leaves)))

within : (leaves : List (List ℕ)) (i : ℕ) → i < length leaves → length (tree_nodes leaves) / 2 + i < length (tree_nodes leaves)
within leaves i inside = omega (arith, half leaves, length-tree_nodes leaves, next_power (height (length leaves)), height_room (length leaves))

leaf_at : (leaves : List (List ℕ)) (i : ℕ) → i < length leaves → get_or (tree_nodes leaves) (length (tree_nodes leaves) / 2 + i) [] ≡ get_or leaves i []
leaf_at leaves i inside =
    let first : ℕ = 2 ^ height (length leaves) - 1 in
    ap (λ n. get_or (tree_nodes leaves) (n + i) []) (half leaves)
    ∙ sym (get_or-drop first (tree_nodes leaves) i [])
    ∙ sym (get_or-take (length leaves) (drop first (tree_nodes leaves)) i [] inside)
    ∙ ap (λ (l : List (List ℕ)). get_or l i []) (tree_nodes_leaves leaves)

pub bounds-nodes-nodes : goal.bounds-nodes-nodes
bounds-nodes-nodes c = subst (λ (l : List (List ℕ)). length l / 2 + c.args.number < length l) (sym c.nodes-nodes.ensures) (within c.args.tree.now c.args.number c.requires)

pub returns : goal.returns
returns c =
    ap (λ (l : List (List ℕ)). get_or l (length l / 2 + c.args.number) []) c.nodes-nodes.ensures ∙ leaf_at c.args.tree.now c.args.number c.requires
