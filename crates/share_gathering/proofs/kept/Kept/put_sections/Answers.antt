use Rattle.std.proofs.Common.{Global, Vec, ◌≡◌, ℕ, ◌<◌, List, [], ◌++◌, length, get_or, map, ap, subst, sym, ◌∙◌, arith}
use Rattle.std.proofs.lemmas.List.{get_or-map, get_or_default, length-map}
use Rattle.merkle.specs.Tree.{tree_nodes, tree_root}
use Rattle.file_encoding.specs.Encoding.{share_hashes}
use Rattle.share_layout.specs.Layout.{header, offsets_of, spelled}
use Rattle.share_verify.specs.Pieces.{joined}
use Rattle.share_gathering.specs.Kept.{IsKept}
use Rattle.block_making.specs.Making.{put_at}
use Rattle.share_gathering.specs.KeptFile.{KeptFile, kept_leaves}
use Rattle.share_gathering.proofs.Sections.{hash_count, hashes_at, sections_put, texts_of, tree_count}
use Rattle.share_gathering.proofs.kept.Kept.put_sections.Goals as goal

pub index-requires : goal.index-requires
index-requires c =
    let p : KeptFile = c.args.self.now in
    let kept = subst (λ (p : KeptFile). IsKept p (texts_of c.self.inside.share_hashes.items) c.self.inside.encoder c.self.inside.buffers) c.self.view_is c.self.invariant.kept in
    omega (
      arith,
      c.from-share.ensures,
      kept.digests,
      tree_count p (texts_of c.self.inside.share_hashes.items) c.self.inside.encoder c.self.inside.buffers kept,
      ap (λ (p : KeptFile). length p.block_leaves) c.self.view_is,
    )

pub index-requires-2 : goal.index-requires-2
index-requires-2 c =
    let p : KeptFile = c.args.self.now in
    let kept = subst (λ (p : KeptFile). IsKept p (texts_of c.self.inside.share_hashes.items) c.self.inside.encoder c.self.inside.buffers) c.self.view_is c.self.invariant.kept in
    omega (
      arith,
      c.from-share.ensures,
      kept.digests,
      hash_count p (texts_of c.self.inside.share_hashes.items) c.self.inside.encoder c.self.inside.buffers kept,
      length-map c.self.inside.share_hashes.items (λ (v : Vec ℕ Global). v.items),
    )

pub put_ending-requires-clause-short : goal.put_ending-requires-clause-short
put_ending-requires-clause-short c =
    let p : KeptFile = c.args.self.now in
    let kept = subst (λ (p : KeptFile). IsKept p (texts_of c.self.inside.share_hashes.items) c.self.inside.encoder c.self.inside.buffers) c.self.view_is c.self.invariant.kept in
    omega (
      arith,
      kept.short,
      ap length c.deref-2.ensures.value,
      ap (λ (p : KeptFile). length p.extension_block) c.self.view_is,
    )

pub returns : goal.returns
returns c =
    let p : KeptFile = c.args.self.now in
    let share : ℕ = c.args.share in
    let hashes : List (List ℕ) = texts_of c.self.inside.share_hashes.items in
    let kept : IsKept p hashes c.self.inside.encoder c.self.inside.buffers = subst (λ (p : KeptFile). IsKept p hashes c.self.inside.encoder c.self.inside.buffers) c.self.view_is c.self.invariant.kept in
    let low : share < p.geometry.total = omega (arith, c.requires.number, kept.digests) in
    let offsets = c.of-offsets.ensures.offsets ∙ ap (λ (p : KeptFile). offsets_of p.geometry) c.self.view_is in
    let number : c.from-share.result ≡ share = c.from-share.ensures in
    let trees : c.from-share.result < length c.self.inside.block_trees.items =
    omega (arith, number, low, tree_count p hashes c.self.inside.encoder c.self.inside.buffers kept, ap (λ (p : KeptFile). length p.block_leaves) c.self.view_is) in
    let tree : c.index.result.now ≡ kept_leaves p share =
    c.index.ensures ∙ get_or_default c.self.inside.block_trees.items c.from-share.result c.index.result.now [] trees
    ∙ (λ q. get_or c.self.inside.block_trees.items (number q) []) ∙ ap (λ (p : KeptFile). get_or p.block_leaves share []) c.self.view_is in
    let texts : c.from-share.result < length c.self.inside.share_hashes.items =
    omega (arith, number, low, hash_count p hashes c.self.inside.encoder c.self.inside.buffers kept, length-map c.self.inside.share_hashes.items (λ (v : Vec ℕ Global). v.items)) in
    let own : c.deref.result.now ≡ share_hashes (map tree_root p.block_leaves) share =
    c.deref.ensures.value ∙ ap (λ (v : Vec ℕ Global). v.items) c.index-2.ensures
    ∙ sym (get_or-map (λ (v : Vec ℕ Global). v.items) c.self.inside.share_hashes.items c.from-share.result c.index-2.result.now [] texts)
    ∙ ap (λ n. get_or hashes n []) number ∙ hashes_at p hashes c.self.inside.encoder c.self.inside.buffers kept share low in
    let block : c.deref-2.result.now ≡ p.extension_block = c.deref-2.ensures.value ∙ ap (λ (p : KeptFile). p.extension_block) c.self.view_is in
    sections_put p hashes c.self.inside.encoder c.self.inside.buffers kept share low c.args.offset c.args.out.now
    c.put_header.new.out c.put_tree.new.out c.put_tree-2.new.out c.put_part.new.out c.put_ending.new.out c.requires.inside
    (c.put_header.ensures ∙ ap (λ (p : KeptFile). put_at 0 (header p.geometry) c.args.offset c.args.out.now) c.self.view_is) c.put_header.auto.out
    (c.put_tree.ensures
    ∙ (λ q. put_at (offsets q).ciphertext_tree (joined (tree_nodes (ap (λ (p : KeptFile). p.leaves) c.self.view_is q))) c.args.offset c.put_header.new.out)) c.put_tree.auto.out
    (c.put_tree-2.ensures ∙ (λ q. put_at (offsets q).block_tree (joined (tree_nodes (tree q))) c.args.offset c.put_tree.new.out)) c.put_tree-2.auto.out
    (c.put_part.ensures ∙ (λ q. put_at (offsets q).share_hashes (own q) c.args.offset c.put_tree-2.new.out)) c.put_part.auto.out
    (c.put_ending.ensures
    ∙ (λ q. put_at (offsets q).extension_block (spelled (offsets q).layout (length (block q)) ++ block q) c.args.offset c.put_part.new.out)) c.put_ending.auto.out
