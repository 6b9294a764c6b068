use Rattle.std.proofs.Common.{◌≡◌, ℕ, List, length, map, refl, ap, sym, subst, ◌∙◌, arith}
use Rattle.merkle.specs.Tree.{tree_nodes, tree_root}
use Rattle.share_layout.specs.Geometry.{Geometry}
use Rattle.proved_parts.specs.FileOf.{segment_hashes}
use Rattle.file_encoding.specs.BegunFiles.{AreBegun}
use Rattle.file_encoding.specs.Blocks.{finished}
use Rattle.file_encoding.specs.Decoded.{AreMade, DecodedState, IsWholeText}
use Rattle.file_encoding.specs.Padded.{padded_leaves, plain_segments}
use Rattle.file_encoding.specs.declared.draft.Begun.{Begun}
use Rattle.file_encoding.proofs.DecodedFiles.{leaf_count, other_regenerated, regenerated}
use Rattle.file_encoding.proofs.GoodShares.{can_regenerate, only_own}
use Rattle.file_encoding.proofs.Making.{count, length-tree, shares_are, some_segments, total_is, tree_is}
use Rattle.file_encoding.proofs.RemadePassing.{regenerated_pass}
use Rattle.file_encoding.proofs.decoded.DecodedFile.make_shares.Goals as goal

pub build-requires-clause-some : goal.build-requires-clause-some
build-requires-clause-some c =
    omega (arith, ap length c.deref.ensures.value, leaf_count _ c.self.invariant, some_segments c.self.inside.geometry c.self.invariant.valid)

pub build-requires-clause-few : goal.build-requires-clause-few
build-requires-clause-few c = omega (arith, ap length c.deref.ensures.value, leaf_count _ c.self.invariant, c.self.invariant.valid.few)

pub begin_file-requires-clause-leaves : goal.begin_file-requires-clause-leaves
begin_file-requires-clause-leaves c = ap length (c.in_ok-ciphertext_tree.ensures ∙ c.deref.ensures.value) ∙ leaf_count _ c.self.invariant

pub build_share_tree-requires-clause-some : goal.build_share_tree-requires-clause-some
build_share_tree-requires-clause-some c =
    let valid = c.self.invariant.valid in
    omega (arith, ap length c.deref-3.ensures.value, count c.self.inside.geometry c.deref-2.result.now _ c.in_ok-begun.begun.items c.in_ok-begun.ensures, valid.some_needed, valid.enough)

pub build_share_tree-requires-clause-few : goal.build_share_tree-requires-clause-few
build_share_tree-requires-clause-few c =
    let valid = c.self.invariant.valid in
    omega (arith, ap length c.deref-3.ensures.value, count c.self.inside.geometry c.deref-2.result.now _ c.in_ok-begun.begun.items c.in_ok-begun.ensures, valid.shares)

pub returns-then-not-is_root-clause-inconsistent : goal.returns-then-not-is_root-clause-inconsistent
returns-then-not-is_root-clause-inconsistent c = λ cap numbers strings from _.
    let g : Geometry = c.self.inside.geometry in
    let text : List ℕ = c.self.inside.text.items in
    let nodes : List (List ℕ) = tree_nodes c.in_ok-ciphertext_tree.ciphertext_tree in
    let begun : AreBegun g text nodes g.total c.in_ok-begun.begun.items = subst (λ (t : List ℕ). AreBegun g t nodes g.total c.in_ok-begun.begun.items) c.deref-2.ensures.value c.in_ok-begun.ensures in
    let roots : c.in_ok-share_tree.share_tree ≡ map (λ (b : Begun). b.root) c.in_ok-begun.begun.items = c.in_ok-share_tree.ensures ∙ ap (λ (bs : List Begun). map (λ (b : Begun). b.root) bs) c.deref-3.ensures.value in
    let tree : c.in_ok-share_tree.share_tree ≡ padded_leaves g text = tree_is g text nodes c.in_ok-begun.begun.items begun c.in_ok-share_tree.share_tree roots in
    other_regenerated cap numbers strings c.args.self.now (subst IsWholeText c.self.view_is c.self.invariant) from
    (λ e. (let same : tree_root (padded_leaves g text) ≡ c.self.inside.share_root =
    subst (λ (d : DecodedState). tree_root (padded_leaves d.geometry d.text) ≡ d.share_root) (sym c.self.view_is) e in
    let yes = c.is_root.ensures.1 (ap tree_root tree ∙ same) in let no = c.if-not-is_root.true in absurd cc))

pub finish_shares-requires-clause-total : goal.finish_shares-requires-clause-total
finish_shares-requires-clause-total c =
    let begun = c.in_ok-begun.ensures in
    let roots : c.in_ok-share_tree.share_tree ≡ map (λ (b : Begun). b.root) c.in_ok-begun.begun.items = c.in_ok-share_tree.ensures ∙ ap (λ (bs : List Begun). map (λ (b : Begun). b.root) bs) c.deref-3.ensures.value in
    total_is c.self.inside.geometry c.deref-2.result.now _ c.in_ok-begun.begun.items begun (length c.in_ok-share_tree.share_tree)
    (sym (length-tree c.self.inside.geometry c.deref-2.result.now _ c.in_ok-begun.begun.items begun c.in_ok-share_tree.share_tree roots))

pub finish_shares-requires-clause-few : goal.finish_shares-requires-clause-few
finish_shares-requires-clause-few c =
    let begun = c.in_ok-begun.ensures in
    let roots : c.in_ok-share_tree.share_tree ≡ map (λ (b : Begun). b.root) c.in_ok-begun.begun.items = c.in_ok-share_tree.ensures ∙ ap (λ (bs : List Begun). map (λ (b : Begun). b.root) bs) c.deref-3.ensures.value in
    omega (arith, length-tree c.self.inside.geometry c.deref-2.result.now _ c.in_ok-begun.begun.items begun c.in_ok-share_tree.share_tree roots, c.self.invariant.valid.shares)

pub returns-clause-made : goal.returns-clause-made
returns-clause-made c =
    let g : Geometry = c.self.inside.geometry in
    let text : List ℕ = c.self.inside.text.items in
    let nodes : List (List ℕ) = tree_nodes c.in_ok-ciphertext_tree.ciphertext_tree in
    let begun : AreBegun g text nodes g.total c.in_ok-begun.begun.items = subst (λ (t : List ℕ). AreBegun g t nodes g.total c.in_ok-begun.begun.items) c.deref-2.ensures.value c.in_ok-begun.ensures in
    let own : nodes ≡ tree_nodes (segment_hashes (plain_segments g text)) = ap tree_nodes (c.in_ok-ciphertext_tree.ensures ∙ c.deref.ensures.value ∙ sym c.self.invariant.leaves_are) in
    let roots : c.in_ok-share_tree.share_tree ≡ map (λ (b : Begun). b.root) c.in_ok-begun.begun.items = c.in_ok-share_tree.ensures ∙ ap (λ (bs : List Begun). map (λ (b : Begun). b.root) bs) c.deref-3.ensures.value in
    let tree : c.in_ok-share_tree.share_tree ≡ padded_leaves g text = tree_is g text nodes c.in_ok-begun.begun.items begun c.in_ok-share_tree.share_tree roots in
    subst (λ (d : DecodedState). AreMade d c.in_ok-finish_shares.field-0.items) c.self.view_is record {
      root = ap tree_root (sym tree) ∙ c.is_root.ensures.0 c.if-not-is_root.false;
      are = shares_are g text nodes c.in_ok-begun.begun.items begun c.in_ok-share_tree.share_tree roots c.self.inside.extension_block.items c.in_ok-finish_shares.field-0.items own
          (c.in_ok-finish_shares.ensures ∙ ap (λ (block : List ℕ). map (λ (b : Begun). finished c.in_ok-share_tree.share_tree block b.draft) c.in_ok-begun.begun.items) c.deref-4.ensures.value);
    }

pub returns-clause-regenerated : goal.returns-clause-regenerated
returns-clause-regenerated c = λ cap numbers strings from.
    regenerated cap numbers strings c.args.self.now (subst IsWholeText c.self.view_is c.self.invariant) from _ (returns-clause-made c)

pub returns-clause-own : goal.returns-clause-own
returns-clause-own c = λ cap numbers strings from file secret p good.
    only_own file secret p cap numbers strings good _ (returns-clause-regenerated c cap numbers strings from)

pub returns-clause-pass : goal.returns-clause-pass
returns-clause-pass c = λ cap numbers strings from. regenerated_pass cap numbers strings _ (returns-clause-regenerated c cap numbers strings from)

pub returns-then-not-is_root-clause-own : goal.returns-then-not-is_root-clause-own
returns-then-not-is_root-clause-own c = λ cap numbers strings from file secret p good.
    absurd (can_regenerate file secret p cap numbers strings good (returns-then-not-is_root-clause-inconsistent c cap numbers strings from refl))
