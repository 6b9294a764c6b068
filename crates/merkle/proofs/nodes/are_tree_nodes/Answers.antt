use Rattle.std.proofs.Common.{◌≡◌, ◌-◌, ◌*◌, ◌/◌, ◌^◌, ℕ, List, length, drop, subst, sym, ◌∙◌, ap, arith}
use Rattle.std.proofs.Math.Nat.{pow-le-pow_right}
use Rattle.std.proofs.lemmas.Bool.{true≢false}
use Rattle.std.proofs.lemmas.List.{length-drop, take_rest}
use Rattle.std.proofs.lemmas.Nat.{pow_pos}
use Rattle.merkle.specs.Tree.{height}
use Rattle.merkle.specs.Nodes.{IsPadded}
use Rattle.merkle.proofs.HeightLemmas.{height_below}
use Rattle.merkle.proofs.NodesLemmas.{padding_is, pairs_are, tree_nodes_are}
use Rattle.merkle.proofs.nodes.are_tree_nodes.Goals as goal

-- the inner nodes are half of all
half : (n size : ℕ) → size ≡ 2 * 2 ^ height n - 1 → size / 2 ≡ 2 ^ height n - 1
half n size full = omega (arith, pow_pos (height n))

pub is_padded-requires : goal.is_padded-requires
is_padded-requires c =
    let nodes = c.args.nodes.now in
    let n = c.args.leaf_count in
    let low = pow-le-pow_right {n = 2} (omega arith) {i = height n} {j = 20} (height_below n 20 c.requires.few) in
    rw take_rest (omega (arith, length-drop (length nodes / 2) nodes, low))

pub returns-then-are_pairs : goal.returns-then-are_pairs
returns-then-are_pairs c =
    let nodes = c.args.nodes.now in
    let n = c.args.leaf_count in
    let size : length nodes ≡ 2 * 2 ^ height n - 1 = c.requires.nodes in
    let row : List (List ℕ) = drop (2 ^ height n - 1) nodes in
    let same = take_rest nodes (length nodes / 2) ∙ ap (λ (k : ℕ). drop k nodes) (half n (length nodes) size) in
    let empty = c.is_padded.ensures in (
      λ yes. tree_nodes_are n nodes size (c.are_pairs.ensures.0 c.if-are_pairs.true) (subst (IsPadded n) same (empty.0 yes)),
      λ are. empty.1 (subst (IsPadded n) (sym same) (padding_is n nodes size are)),
    )

pub returns-else-are_pairs : goal.returns-else-are_pairs
returns-else-are_pairs c =
    let nodes = c.args.nodes.now in
    let n = c.args.leaf_count in
    let pairs = c.are_pairs.ensures in (
      λ yes. absurd (true≢false (sym yes ∙ c.if-are_pairs.false)),
      λ are. pairs.1 (pairs_are n nodes c.requires.nodes are),
    )
