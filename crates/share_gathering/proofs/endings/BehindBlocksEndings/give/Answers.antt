use Rattle.std.proofs.Common.{◌≡◌, ℕ, ◌+◌, ◌<◌, List, [], ◌++◌, length, map, replicate, slice_index_or, ap, subst, sym, ◌∙◌, arith}
use Rattle.sha2_lanes.specs.Lanes.{text}
use Rattle.merkle.specs.Tree.{tree_nodes}
use Rattle.share_layout.specs.Geometry.{Geometry, tree_size}
use Rattle.share_layout.specs.Layout.{spelled}
use Rattle.share_verify.specs.Pieces.{joined}
use Rattle.tagged_hash.specs.Wholes.{IsGivenAt}
use Rattle.share_gathering.specs.declared.finishing.Behind.{Behind}
use Rattle.share_gathering.proofs.OneByOne.{behind}
use Rattle.share_gathering.proofs.endings.BehindBlocksEndings.give.Goals as goal

pub returns : goal.returns
returns c = λ j given low there holds.
    let g : Geometry = c.args.self.now.geometry.now in
    let b : Behind = c.args.self.now.behind.now in
    let i : ℕ = c.args.first + j in
    let tree_there : i < length b.block_trees.items = omega (arith, there, c.args.self.now.trees) in
    let hashes_there : i < length b.share_hashes.items = omega (arith, there, c.args.self.now.hashes) in
    let rows : c.tree_size.result ≡ tree_size g = c.tree_size.ensures.value in
    let tree : c.as_flattened.result.now ≡ joined (tree_nodes b.ciphertext_tree) = c.as_flattened.ensures.value ∙ ap joined c.nodes.ensures in
    let own : text c.eight_trees.result j ≡ joined (tree_nodes (slice_index_or b.block_trees.items i [])) =
    c.eight_trees.ensures j (omega (arith, low)) (subst (λ (l : List (List (List ℕ))). i < length l) (sym c.deref.ensures.value) tree_there)
    ∙ ap (λ (l : List (List (List ℕ))). joined (tree_nodes (slice_index_or l i []))) c.deref.ensures.value in
    let hashes : text c.eight_hashes.result j ≡ slice_index_or (map (λ (h : _). h.items) b.share_hashes.items) i [] =
    c.eight_hashes.ensures j (omega (arith, low)) (subst (λ (l : _). i < length l) (sym c.deref-2.ensures.value) hashes_there)
    ∙ ap (λ (l : _). slice_index_or (map (λ (h : _). h.items) l) i []) c.deref-2.ensures.value in
    let long : c.len.result ≡ length b.extension_block.items = omega (arith, c.len.ensures, b.extension_block.ok.0) in
    let spelling = c.spelled_length-width.ensures.text ∙ λ p. spelled (c.layout-layout.ensures p) (long p) in
    subst (IsGivenAt c.update_all-3.new.self j)
    (behind given (replicate c.tree_size.result 0) c.as_flattened.result.now (text c.eight_trees.result j) (text c.eight_hashes.result j) _ c.deref-3.result.now
    ∙ λ p. given ++ (replicate (rows p) 0 ++ tree p ++ own p ++ hashes p ++ (spelling p ++ c.deref-3.ensures.value p)))
    (c.update_all-3.ensures j _ low (c.update_all-2.ensures j _ low (c.update-2.ensures j _ low (c.update.ensures j _ low
    (c.update_all.ensures j _ low (c.add_zeros.ensures j given low holds))))))
