use Rattle.std.proofs.Common.{◌≡◌, ℕ, List, ◌++◌, length, map, inl, inr, refl, ap, subst, sym, ◌∙◌, arith}
use Rattle.std.specs.List.{range_with_len}
use Rattle.std.proofs.lemmas.List.{length-map}
use Rattle.std.proofs.lemmas.List.FromFn.{length-map-range_with_len}
use Rattle.merkle.specs.Tree.{tree_root}
use Rattle.merkle.proofs.PartialLemmas.{same_hash}
use Rattle.tagged_hash.specs.TaggedHash.{tagged_hash}
use Rattle.tagged_hash.specs.declared.tag.Tag.TheVariants.{WholeShare}
use Rattle.ueb.specs.Shape.{Contents}
use Rattle.share_layout.specs.Geometry.{Geometry, with_padding}
use Rattle.share_verify.specs.CapBlock.{geometry_by}
use Rattle.file_encoding.specs.Encoding.{share_hashes}
use Rattle.block_making.proofs.MadeBlocks.{other_hash}
use Rattle.share_gathering.specs.Finishing.{HaveLeaves, bytes_behind}
use Rattle.file_streaming.specs.Remaking.{IsRemaking}
use Rattle.tagged_hash.specs.Wholes.{AreGiven}
use Rattle.share_gathering.specs.declared.finishing.Behind.{Behind}
use Rattle.file_streaming.specs.declared.remaking.Remaking.{Remaking}
use Rattle.file_streaming.proofs.RemadeEnd.{all_fit, block_leaves_are, digests_are, gathered_padded, leaves_are, leaves_fit, roots_are}
use Rattle.file_streaming.proofs.remade_ending.finish_remade.Goals as goal

pub build_trees-requires-clause-leaves : goal.build_trees-requires-clause-leaves
build_trees-requires-clause-leaves c =
    let u : Contents = c.args.ueb.now in
    let text : List ℕ = c.requires.text.0 in
    let is : IsRemaking (with_padding (geometry_by u)) u.size text c.args.remaking = subst (λ (g : Geometry). IsRemaking g u.size text c.args.remaking) c.requires.geometry c.requires.text.1 in
    subst HaveLeaves (sym c.deref.ensures.value) (leaves_fit u c.requires.valid text c.args.remaking is)

pub build_trees-requires-clause-all : goal.build_trees-requires-clause-all
build_trees-requires-clause-all c =
    let u : Contents = c.args.ueb.now in
    let text : List ℕ = c.requires.text.0 in
    let is : IsRemaking (with_padding (geometry_by u)) u.size text c.args.remaking = subst (λ (g : Geometry). IsRemaking g u.size text c.args.remaking) c.requires.geometry c.requires.text.1 in
    all_fit u c.requires.valid text c.args.remaking is

pub build_trees-requires-clause-some : goal.build_trees-requires-clause-some
build_trees-requires-clause-some c =
    let u : Contents = c.args.ueb.now in
    omega (arith, c.requires.text.1.holds.count, ap (λ (g : Geometry). g.total) c.requires.geometry, c.requires.valid.some_needed, c.requires.valid.enough)

pub build_trees-requires-clause-few : goal.build_trees-requires-clause-few
build_trees-requires-clause-few c = omega (arith, c.requires.text.1.holds.count, ap (λ (g : Geometry). g.total) c.requires.geometry, c.requires.valid.shares)

pub returns-then-ne-clause-inconsistent : goal.returns-then-ne-clause-inconsistent
returns-then-ne-clause-inconsistent c = λ text held _.
    let u : Contents = c.args.ueb.now in
    let is : IsRemaking (with_padding (geometry_by u)) u.size text c.args.remaking = subst (λ (g : Geometry). IsRemaking g u.size text c.args.remaking) c.requires.geometry held in
    let root : c.root.result ≡ tree_root c.args.remaking.leaves.items = c.root.ensures ∙ ap tree_root (c.in_ok-trees.ensures.ciphertext ∙ c.deref.ensures.value) in
    inl (λ same. other_hash c.root.result c.crypttext_root_hash.result.now c.ne.result c.ne.ensures c.if-ne.true
    (root ∙ ap tree_root (leaves_are u c.requires.valid text c.args.remaking is) ∙ same ∙ sym c.crypttext_root_hash.ensures))

pub returns-then-ne-2-clause-inconsistent : goal.returns-then-ne-2-clause-inconsistent
returns-then-ne-2-clause-inconsistent c = λ text held _.
    let u : Contents = c.args.ueb.now in
    let is : IsRemaking (with_padding (geometry_by u)) u.size text c.args.remaking = subst (λ (g : Geometry). IsRemaking g u.size text c.args.remaking) c.requires.geometry held in
    let roots = roots_are u c.requires.valid text c.args.remaking is c.in_ok-trees.trees.blocks.items c.in_ok-trees.ensures.blocks in
    inr (λ same. other_hash c.root-2.result c.share_root_hash.result.now c.ne-2.result c.ne-2.ensures c.if-ne-2.true
    (c.root-2.ensures ∙ ap tree_root (c.in_ok-trees.ensures.shares ∙ roots) ∙ same ∙ sym c.share_root_hash.ensures))

pub digests_of-requires-clause-hashes : goal.digests_of-requires-clause-hashes
digests_of-requires-clause-hashes c =
    sym (length-map c.in_ok-share_hashes.share_hashes.items (λ (h : _). h.items)) ∙ ap length c.in_ok-share_hashes.ensures.value
    ∙ length-map-range_with_len (share_hashes c.in_ok-trees.trees.shares) 0 c.total.result ∙ c.total.ensures.value

pub returns-clause-finished : goal.returns-clause-finished
returns-clause-finished c = λ text held.
    let u : Contents = c.args.ueb.now in
    let x : Remaking = c.args.remaking in
    let is : IsRemaking (with_padding (geometry_by u)) u.size text x = subst (λ (g : Geometry). IsRemaking g u.size text x) c.requires.geometry held in
    let total : c.total.result ≡ u.total_shares = c.total.ensures.value ∙ ap (λ (g : Geometry). g.total) c.requires.geometry in
    let leaves = c.in_ok-trees.ensures.ciphertext ∙ c.deref.ensures.value ∙ leaves_are u c.requires.valid text x is in
    let roots = c.in_ok-trees.ensures.shares ∙ roots_are u c.requires.valid text x is c.in_ok-trees.trees.blocks.items c.in_ok-trees.ensures.blocks in
    let trees = c.in_ok-trees.ensures.blocks ∙ block_leaves_are u c.requires.valid text x is in
    let hashes = c.in_ok-share_hashes.ensures.value ∙ λ q. map (share_hashes (roots q)) (range_with_len 0 (total q)) in
    let written : ℕ → List ℕ = (gathered_padded (with_padding (geometry_by u)) text).written in
    let behind : Behind = record {
      ciphertext_tree = c.in_ok-trees.trees.ciphertext;
      block_trees = c.in_ok-trees.trees.blocks;
      share_hashes = c.in_ok-share_hashes.share_hashes;
      extension_block = c.args.extension_block;
    } in
    record {
      ciphertext_root =
          ap tree_root (sym leaves) ∙ sym c.root.ensures ∙ same_hash c.root.result c.crypttext_root_hash.result.now c.ne.result c.ne.ensures c.if-ne.false
          ∙ c.crypttext_root_hash.ensures;
      share_root =
          ap tree_root (sym roots) ∙ sym c.root-2.ensures ∙ same_hash c.root-2.result c.share_root_hash.result.now c.ne-2.result c.ne-2.ensures c.if-ne-2.false
          ∙ c.share_root_hash.ensures;
      copied = refl;
      leaves = leaves;
      block_leaves = trees;
      hashes = hashes;
      digests =
          digests_are u c.requires.valid text x is behind c.args.extension_block.items c.in_ok-digests.digests.items leaves trees hashes refl
          (c.in_ok-digests.ensures written (subst (λ (g : Geometry). AreGiven g.total written x.wholes.items) (sym c.requires.geometry) is.holds.wholes)
          ∙ ap (λ (g : Geometry). map (λ i. tagged_hash WholeShare (written i ++ bytes_behind g behind i)) (range_with_len 0 g.total)) c.requires.geometry);
    }
