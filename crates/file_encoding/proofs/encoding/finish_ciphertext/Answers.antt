use Rattle.std.proofs.Common.{◌≡◌, ℕ, List, length, map, get_or, All, ap, sym, ◌∙◌, arith}
use Rattle.std.proofs.lemmas.List.{get_or-map, length-map}
use Rattle.std.specs.Int.{div_ceil}
use Rattle.std.proofs.lemmas.List.FromFn.{get_or-map-range_with_len, length-map-range_with_len}
use Rattle.std.proofs.lemmas.Simd.{map-map}
use Rattle.cap_text.specs.declared.cap.Cap.TheVariants.{Chk}
use Rattle.merkle.specs.Tree.{tree_nodes, tree_root}
use Rattle.tagged_hash.specs.TaggedHash.{tagged_hash}
use Rattle.tagged_hash.specs.declared.tag.Tag.TheVariants.{ExtensionBlock}
use Rattle.ueb.specs.Block.{ueb_text}
use Rattle.share_layout.specs.Geometry.{Geometry}
use Rattle.share_layout.specs.Pieces.{segments_of}
use Rattle.proved_parts.specs.FileOf.{segment_hashes}
use Rattle.file_encoding.specs.BegunFiles.{IsBegun}
use Rattle.file_encoding.specs.Blocks.{draft_of, finished}
use Rattle.file_encoding.specs.Digests.{beginning_of, begun_bytes}
use Rattle.file_encoding.specs.Drafts.{DraftState}
use Rattle.file_encoding.specs.Encoding.{extension_block_contents, padded_segment, share_leaves}
use Rattle.file_encoding.specs.declared.encoding.BegunFile.{BegunFile}
use Rattle.file_encoding.specs.declared.draft.Begun.{Begun}
use Rattle.file_encoding.proofs.HashedShares.{first_bytes, given_same}
use Rattle.file_encoding.proofs.Whole.{cap_is, roots_are, shares_are}
use Rattle.file_encoding.proofs.encoding.finish_ciphertext.Goals as goal

-- how many shares are begun
count : (g : Geometry) (text : List ℕ) (begun : BegunFile) → IsBegun g text begun → length begun.shares.items ≡ g.total
count g text begun is =
    sym (length-map begun.shares.items (λ (b : Begun). b.draft)) ∙ ap length is.shares.drafts
    ∙ length-map-range_with_len (draft_of g (padded_segment g.needed text) (tree_nodes (segment_hashes (segments_of g text)))) 0 g.total

-- they are of one file
total_is : (g : Geometry) (text : List ℕ) (begun : BegunFile) (n : ℕ) → IsBegun g text begun → g.total ≡ n → All (λ (b : Begun). b.draft.geometry.total ≡ n) begun.shares.items
total_is g text begun n is same k d below =
    let draft : ℕ → DraftState = draft_of g (padded_segment g.needed text) (tree_nodes (segment_hashes (segments_of g text))) in
    ap (λ (w : DraftState). w.geometry.total)
    (sym (get_or-map (λ (b : Begun). b.draft) begun.shares.items k d (draft 0) below) ∙ ap (λ (ws : List DraftState). get_or ws k (draft 0)) is.shares.drafts
    ∙ get_or-map-range_with_len draft 0 g.total k k (draft 0) (omega (arith, below, count g text begun is)) (omega arith))
    ∙ same

pub build_share_tree-requires-clause-some : goal.build_share_tree-requires-clause-some
build_share_tree-requires-clause-some c =
    let is = c.requires.begun.1 in
    omega (arith, ap length c.deref.ensures.value, count c.args.geometry.now c.requires.begun.0 c.args.begun is, is.valid.some_needed, is.valid.enough)

pub build_share_tree-requires-clause-few : goal.build_share_tree-requires-clause-few
build_share_tree-requires-clause-few c =
    let is = c.requires.begun.1 in
    omega (arith, ap length c.deref.ensures.value, count c.args.geometry.now c.requires.begun.0 c.args.begun is, is.valid.shares)

-- how many leaves the share tree has
leaves : (g : Geometry) (text : List ℕ) (begun : BegunFile) (slice : List Begun) (tree : List (List ℕ)) → IsBegun g text begun → slice ≡ begun.shares.items
    → tree ≡ map (λ (b : Begun). b.root) slice → (tree ≡ share_leaves g (segments_of g text)) × (length tree ≡ g.total)
leaves g text begun slice tree is shown roots =
    let all : tree ≡ map (λ (b : Begun). b.root) begun.shares.items = roots ∙ ap (λ (bs : List Begun). map (λ (b : Begun). b.root) bs) shown in
    (all ∙ is.shares.roots ∙ roots_are g text is.valid is.size, ap length all ∙ length-map begun.shares.items (λ (b : Begun). b.root) ∙ count g text begun is)

pub finish_shares-requires-clause-total : goal.finish_shares-requires-clause-total
finish_shares-requires-clause-total c =
    let tree = leaves c.args.geometry.now c.requires.begun.0 c.args.begun _ c.in_ok-share_tree.share_tree c.requires.begun.1 c.deref.ensures.value c.in_ok-share_tree.ensures in
    total_is c.args.geometry.now c.requires.begun.0 c.args.begun (length c.in_ok-share_tree.share_tree) c.requires.begun.1 (sym tree.1)

pub finish_shares-requires-clause-few : goal.finish_shares-requires-clause-few
finish_shares-requires-clause-few c =
    let tree = leaves c.args.geometry.now c.requires.begun.0 c.args.begun c.deref.result.now c.in_ok-share_tree.share_tree c.requires.begun.1 c.deref.ensures.value c.in_ok-share_tree.ensures in
    omega (arith, tree.1, c.requires.begun.1.valid.shares)

-- what is written of a begun file
module _ (g : Geometry) (text : List ℕ) (begun : BegunFile) (is : IsBegun g text begun) where
  block_is : (root extension_block : List ℕ) → root ≡ tree_root (share_leaves g (segments_of g text))
      → extension_block ≡ ueb_text (record {
        needed_shares = g.needed;
        total_shares = g.total;
        size = g.size;
        segment_size = g.segment_size;
        crypttext_hash = begun.hashed.crypttext_hash;
        crypttext_root_hash = begun.ciphertext_root;
        share_root_hash = root;
      }) → extension_block ≡ ueb_text (extension_block_contents g text (segments_of g text))
  block_is root extension_block leads written =
      written
      ∙ λ i. ueb_text (record {
        needed_shares = g.needed;
        total_shares = g.total;
        size = g.size;
        segment_size = g.segment_size;
        crypttext_hash = is.whole i;
        crypttext_root_hash = is.root i;
        share_root_hash = leads i;
      })

pub digests_of-requires : goal.digests_of-requires
digests_of-requires c =
    let g : Geometry = c.args.geometry.now in
    let text : List ℕ = c.requires.begun.0 in
    let is : IsBegun g text c.args.begun = c.requires.begun.1 in
    let begun : List Begun = c.args.begun.shares.items in
    let tree : List (List ℕ) = c.in_ok-share_tree.share_tree in
    let block : List ℕ = c.deref-2.result.now in
    let nodes : List (List ℕ) = tree_nodes (segment_hashes (segments_of g text)) in
    let shares : c.deref-3.result.now ≡ map (λ (b : Begun). finished tree block b.draft) begun = c.deref-3.ensures.value ∙ c.in_ok-shares.ensures in
    let all : length c.deref-3.result.now ≡ g.total = ap length shares ∙ length-map begun (λ (b : Begun). finished tree block b.draft) ∙ count g text c.args.begun is in
    record {
      groups = is.groups ∙ ap (λ (n : ℕ). div_ceil n 7) (sym all);
      given =
          given_same g.total (length c.deref-3.result.now) (begun_bytes begun) (beginning_of c.deref-3.result.now c.of-given.result.share_hashes) c.args.begun.hashed.wholes.items all
          (λ i low. first_bytes g (padded_segment g.needed text) nodes begun tree block i is.shares low
          ∙ λ p. beginning_of (sym shares p) (sym c.of-given.ensures.offsets p).share_hashes i)
          is.given;
    }

pub returns-clause-cap : goal.returns-clause-cap
returns-clause-cap c = λ text is.
    let g : Geometry = c.args.geometry.now in
    let tree = leaves g text c.args.begun c.deref.result.now c.in_ok-share_tree.share_tree is c.deref.ensures.value c.in_ok-share_tree.ensures in
    let block = block_is g text c.args.begun is c.root.result c.in_ok-extension_block.extension_block.items (c.root.ensures ∙ ap tree_root tree.0) c.in_ok-extension_block.ensures.text in
    ap Chk (cap_is g c.args.key text c.in_ok-extension_block.extension_block.items c.tagged.result c.file_cap-cap.result
    block (c.tagged.ensures ∙ ap (tagged_hash ExtensionBlock) c.deref-4.ensures.value) c.file_cap-cap.ensures)

pub returns-clause-shares : goal.returns-clause-shares
returns-clause-shares c = λ text is.
    let g : Geometry = c.args.geometry.now in
    let tree = leaves g text c.args.begun c.deref.result.now c.in_ok-share_tree.share_tree is c.deref.ensures.value c.in_ok-share_tree.ensures in
    let block = block_is g text c.args.begun is c.root.result c.in_ok-extension_block.extension_block.items (c.root.ensures ∙ ap tree_root tree.0) c.in_ok-extension_block.ensures.text in
    let begun : List Begun = c.args.begun.shares.items in
    let finish : DraftState → List ℕ = finished c.in_ok-share_tree.share_tree c.in_ok-extension_block.extension_block.items in
    shares_are g c.args.key text c.in_ok-extension_block.extension_block.items c.in_ok-share_tree.share_tree (map (λ (b : Begun). b.draft) begun) c.in_ok-shares.shares.items
    is.valid is.size record {
      leaves = tree.0;
      begun = is.shares.drafts;
      block = block;
      all =
          c.in_ok-shares.ensures ∙ ap (λ (e : List ℕ). map (λ (b : Begun). finished c.in_ok-share_tree.share_tree e b.draft) begun) c.deref-2.ensures.value
          ∙ sym (map-map finish (λ (b : Begun). b.draft) begun);
    }
