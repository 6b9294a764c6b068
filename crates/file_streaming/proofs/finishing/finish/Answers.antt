use Rattle.std.proofs.Common.{◌≡◌, ℕ, List, length, map, ap, sym, ◌∙◌}
use Rattle.std.specs.List.{range_with_len}
use Rattle.std.proofs.lemmas.List.{length-map}
use Rattle.std.proofs.lemmas.List.FromFn.{length-map-range_with_len}
use Rattle.merkle.specs.Tree.{tree_root}
use Rattle.tagged_hash.specs.TaggedHash.{tagged_hash}
use Rattle.tagged_hash.specs.declared.tag.Tag.TheVariants.{Ciphertext}
use Rattle.ueb.specs.Block.{ueb_text}
use Rattle.share_layout.specs.Geometry.{Geometry}
use Rattle.share_layout.specs.Pieces.{segments_of}
use Rattle.share_verify.specs.Pieces.{block_hashes}
use Rattle.proved_parts.specs.FileOf.{segment_hashes}
use Rattle.file_encoding.specs.Encoding.{blocks_of, share_hashes, share_leaves}
use Rattle.share_gathering.specs.declared.finishing.Behind.{Behind}
use Rattle.share_gathering.specs.declared.finishing.Trees.{Trees}
use Rattle.file_streaming.proofs.Digests.{block_leaves_are, digests_are, roots_are}
use Rattle.file_streaming.proofs.finishing.finish.Goals as goal

pub digests_of-requires-clause-hashes : goal.digests_of-requires-clause-hashes
digests_of-requires-clause-hashes c =
    let g : Geometry = c.args.geometry.now in
    sym (length-map c.in_ok-behind.behind.share_hashes.items (λ (h : _). h.items)) ∙ ap length c.in_ok-behind.ensures.hashes
    ∙ length-map-range_with_len (share_hashes c.in_ok-trees.trees.shares) 0 g.total

pub returns : goal.returns
returns c = λ text s is whole leaves held given.
    let g : Geometry = c.args.geometry.now in
    let segments : List (List ℕ) = segments_of g text in
    let trees : Trees = c.in_ok-trees.trees in
    let b : Behind = c.in_ok-behind.behind in
    let tree : trees.ciphertext ≡ segment_hashes segments = c.in_ok-trees.ensures.ciphertext ∙ leaves ∙ is.leaves in
    let blocks : trees.blocks.items ≡ map (λ i. block_hashes (blocks_of g.needed i segments)) (range_with_len 0 g.total) =
    c.in_ok-trees.ensures.blocks ∙ block_leaves_are g text s is c.args.shares.items held c.requires.count in
    let roots : trees.shares ≡ share_leaves g segments = c.in_ok-trees.ensures.shares ∙ roots_are g text s is trees.blocks.items blocks in
    let hash : c.finish.result ≡ tagged_hash Ciphertext text = c.finish.ensures Ciphertext s.ciphertext whole ∙ ap (tagged_hash Ciphertext) is.ciphertext_is in
    let own_tree = c.in_ok-behind.ensures.ciphertext ∙ tree in
    let own_trees = c.in_ok-behind.ensures.blocks ∙ blocks in
    let own_hashes = c.in_ok-behind.ensures.hashes ∙ ap (λ (l : List (List ℕ)). map (share_hashes l) (range_with_len 0 g.total)) roots in
    record {
      extension_block =
          c.in_ok-behind.ensures.extension_block
          ∙ λ p. ueb_text (record {
            needed_shares = g.needed;
            total_shares = g.total;
            size = g.size;
            segment_size = g.segment_size;
            crypttext_hash = hash p;
            crypttext_root_hash = tree_root (tree p);
            share_root_hash = tree_root (roots p);
          });
      leaves = own_tree;
      block_leaves = own_trees;
      hashes = own_hashes;
      digests =
          digests_are g text s is b c.in_ok-digests.digests.items own_tree own_trees own_hashes (c.in_ok-digests.ensures s.written given);
    }
