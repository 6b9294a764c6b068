-- The section of a tree, and the nodes in it.
use Rattle.std.proofs.Common.{◌≡◌, ℕ, ◌+◌, ◌-◌, ◌*◌, ◌/◌, ◌^◌, ◌<◌, ◌≤◌, List, [], length, get_or, take, drop, inl, inr, ap, subst, sym, ◌∙◌, arith}
use Rattle.std.specs.Simd.{first_chunks}
use Rattle.std.proofs.lemmas.Bool.{cases_lt}
use Rattle.std.proofs.lemmas.List.{ext_get_or, get_or-drop, get_or-map, get_or-take, length-map}
use Rattle.std.proofs.lemmas.Nat.{pow_pos}
use Rattle.lemmas.proofs.Numbers.{next_power}
use Rattle.tagged_hash.proofs.HashLemmas.{length-double_sha256}
use Rattle.tagged_hash.specs.TaggedHash.{tagged_hash}
use Rattle.tagged_hash.specs.declared.tag.Tag.TheVariants.{Block}
use Rattle.merkle.proofs.HeightLemmas.{height_room}
use Rattle.merkle.proofs.TreeLemmas.{length-tree_nodes, node-leaf, node_split, padded_to-empty, padded_to-leaf, tree_nodes_first, tree_nodes_leaves, tree_nodes_node}
use Rattle.merkle.specs.Tree.{height, leaves_among, node, node_number, padded, tree_nodes, tree_root}
use Rattle.share_verify.specs.Pieces.{block_hashes, joined, pieces}
use Rattle.merkle.specs.Nodes.{AreTreeNodes}
use Rattle.share_verify.specs.Leaves.{AreBlockHashes}
use Rattle.share_verify.specs.TreeSection.{AreHashes, HoldsTree, IsTreeSection, IsTreeWithRoot, hashes_in, root_in}
use Rattle.share_verify.proofs.ChunkLemmas.{first_chunk, first_chunks-joined, get_or-first_chunks, pieces_are_chunks, joined-first_chunks, length-chunk, length-first_chunks, length-joined}
use Rattle.merkle.proofs.NodesLemmas.{inner_position, leaf_count_is}

-- each node of a tree of hashes is a hash
pub length-tree_node : (leaves : List (List ℕ)) → AreHashes leaves → (row offset : ℕ) → row ≤ height (length leaves) → offset < 2 ^ row
    → length (node (height (length leaves)) (padded leaves) row offset) ≡ 32
length-tree_node leaves hashes row offset low inside =
    let m : ℕ = height (length leaves) in
    elim (cases_lt row m) [
      | inl inner ↦ ap length (node_split m (padded leaves) row offset inner) ∙ length-double_sha256 _
      | inr last ↦
          let same : row ≡ m = omega arith in
          let within : offset < 2 ^ m = rw (← same) inside in
          rw same (ap length (node-leaf m (padded leaves) offset)
          ∙ elim (cases_lt offset (length leaves)) [
            | inl own ↦ ap length (padded_to-leaf (2 ^ m) leaves offset own) ∙ hashes offset [] own
            | inr after ↦ ap length (padded_to-empty (2 ^ m) leaves offset after within) ∙ length-double_sha256 _
          ])
    ]

pub tree_nodes_are_hashes : (leaves : List (List ℕ)) → AreHashes leaves → (i : ℕ) → i < length (tree_nodes leaves)
    → length (get_or (tree_nodes leaves) i []) ≡ 32
tree_nodes_are_hashes leaves hashes i below =
    let m : ℕ = height (length leaves) in
    let found = inner_position (m + 1) i (omega (arith, length-tree_nodes leaves)) in
    let here : i ≡ node_number found.0 found.1 = found.4 in
    let low : found.0 ≤ m = omega (arith, found.2) in
    ap (λ (k : ℕ). length (get_or (tree_nodes leaves) k [])) here
    ∙ ap length (tree_nodes_node leaves found.0 found.1 low found.3)
    ∙ length-tree_node leaves hashes found.0 found.1 low found.3

-- the hashes in a section that holds a tree are its nodes
pub hashes_in_tree : (section : List ℕ) (leaves : List (List ℕ)) → HoldsTree section leaves → hashes_in section ≡ tree_nodes leaves
hashes_in_tree section leaves holds =
    let each = tree_nodes_are_hashes leaves holds.hashes in
    let count : length section / 32 ≡ length (tree_nodes leaves) =
    ap (λ (l : List ℕ). length l / 32) holds.nodes ∙ ap (λ (k : ℕ). k / 32) (length-joined 32 (tree_nodes leaves) each) ∙ omega arith in
    (λ i. first_chunks 32 (count i) (holds.nodes i)) ∙ first_chunks-joined 32 (tree_nodes leaves) each

-- the leaves among the nodes of a tree
pub leaves_among_tree : (n : ℕ) (leaves : List (List ℕ)) → length leaves ≡ n → leaves_among (tree_nodes leaves) n ≡ leaves
leaves_among_tree n leaves count =
    subst (λ (k : ℕ). take k (drop (2 ^ height k - 1) (tree_nodes leaves)) ≡ leaves) count (tree_nodes_leaves leaves)

-- the root of the tree in a section is its first node
pub root_of_tree : (section : List ℕ) (leaves : List (List ℕ)) → HoldsTree section leaves → tree_root leaves ≡ root_in section
root_of_tree section leaves holds =
    let k : ℕ = length section / 32 in
    let same = hashes_in_tree section leaves holds in
    let some : 0 < k = omega (arith, length-first_chunks 32 k section, ap length same, length-tree_nodes leaves, pow_pos (height (length leaves)), next_power (height (length leaves))) in
    sym (tree_nodes_first leaves []) ∙ ap (λ (l : List (List ℕ)). get_or l 0 []) (sym same) ∙ first_chunk 32 k section [] some

-- a tree with this root
pub with_root : (n : ℕ) (root section : List ℕ) → IsTreeSection n section → root_in section ≡ root → IsTreeWithRoot n root section
with_root n root section held same = record {
  leaves = held.leaves;
  count = held.count;
  holds = held.holds;
  root = root_of_tree section held.leaves held.holds ∙ same;
}

pub tree_with_root : (n : ℕ) (root section : List ℕ) → IsTreeWithRoot n root section → IsTreeSection n section
tree_with_root n root section held = record { leaves = held.leaves; count = held.count; holds = held.holds }

pub root_with_root : (n : ℕ) (root section : List ℕ) → IsTreeWithRoot n root section → root_in section ≡ root
root_with_root n root section held = sym (root_of_tree section held.leaves held.holds) ∙ held.root

-- the leaves of the tree in a section
pub leaves_in_tree : (n : ℕ) (section : List ℕ) (leaves : List (List ℕ)) → length leaves ≡ n → HoldsTree section leaves
    → leaves_among (hashes_in section) n ≡ leaves
leaves_in_tree n section leaves count holds =
    ap (λ (l : List (List ℕ)). leaves_among l n) (hashes_in_tree section leaves holds) ∙ leaves_among_tree n leaves count

-- the hashes of the blocks
module _ (n size : ℕ) (blocks : List ℕ) where
  pub length-block_hashes : length (block_hashes (pieces n size blocks)) ≡ n
  length-block_hashes = length-map (pieces n size blocks) (tagged_hash Block) ∙ ap length (pieces_are_chunks n size blocks) ∙ length-first_chunks size n blocks

  pub get_or-block_hashes : (i : ℕ) → i < n → get_or (block_hashes (pieces n size blocks)) i [] ≡ tagged_hash Block (take size (drop (i * size) blocks))
  get_or-block_hashes i below =
      let count = ap length (pieces_are_chunks n size blocks) ∙ length-first_chunks size n blocks in
      get_or-map (tagged_hash Block) (pieces n size blocks) i [] [] (omega (arith, count))
      ∙ ap (tagged_hash Block) (ap (λ (l : List (List ℕ)). get_or l i []) (pieces_are_chunks n size blocks) ∙ get_or-first_chunks size n blocks i [] below)

  -- leaves that are the blocks' hashes, one by one
  pub same_block_hashes : (leaves : List (List ℕ)) → length leaves ≡ n → AreBlockHashes leaves size blocks → leaves ≡ block_hashes (pieces n size blocks)
  same_block_hashes leaves count each =
      ext_get_or [] leaves (block_hashes (pieces n size blocks)) (count ∙ sym length-block_hashes)
      (λ i below. each i below ∙ sym (get_or-block_hashes i (omega arith)))

  pub tree_of_blocks : (section : List ℕ) → IsTreeSection n section → AreBlockHashes (leaves_among (hashes_in section) n) size blocks
      → HoldsTree section (block_hashes (pieces n size blocks))
  tree_of_blocks section held each =
      let own = leaves_in_tree n section held.leaves held.count held.holds in
      let same = same_block_hashes (leaves_among (hashes_in section) n) (ap length own ∙ held.count) each in
      subst (HoldsTree section) (sym own ∙ same) held.holds

  pub blocks_of_tree : (section : List ℕ) → HoldsTree section (block_hashes (pieces n size blocks))
      → AreBlockHashes (leaves_among (hashes_in section) n) size blocks
  blocks_of_tree section holds =
      let same = leaves_in_tree n section (block_hashes (pieces n size blocks)) length-block_hashes holds in
      λ i below. ap (λ (l : List (List ℕ)). get_or l i []) same ∙ get_or-block_hashes i (omega (arith, ap length same, length-block_hashes))

module _ (n : ℕ) (section : List ℕ) (long : length section ≡ (2 * 2 ^ height n - 1) * 32) where
  pub chunk_count : length section / 32 ≡ 2 * 2 ^ height n - 1
  chunk_count = omega arith

  pub node_count : length (hashes_in section) ≡ 2 * 2 ^ height n - 1
  node_count = length-first_chunks 32 (length section / 32) section ∙ chunk_count

  pub section_holds : AreTreeNodes n (hashes_in section) → IsTreeSection n section
  section_holds are =
      let m : ℕ = height n in
      let k : ℕ = length section / 32 in
      let nodes : List (List ℕ) = hashes_in section in
      let whole : length section ≡ k * 32 = omega arith in
      let count = leaf_count_is n nodes node_count in
      record {
        leaves = leaves_among nodes n;
        count = count;
        holds = record {
          hashes = λ i d below.
              let own : i < n = omega (arith, count) in
              let offset : 2 ^ m - 1 + i < k = omega (arith, chunk_count, height_room n, pow_pos m) in
              ap length (get_or-take n (drop (2 ^ m - 1) nodes) i d own ∙ get_or-drop (2 ^ m - 1) nodes i d)
              ∙ length-chunk 32 k section (2 ^ m - 1 + i) d (omega arith) offset;
          nodes = sym (joined-first_chunks 32 k section whole) ∙ ap joined are;
        };
      }

  pub nodes_are : IsTreeSection n section → AreTreeNodes n (hashes_in section)
  nodes_are held =
      let same = hashes_in_tree section held.leaves held.holds in
      same ∙ ap tree_nodes (sym (ap (λ (l : List (List ℕ)). leaves_among l n) same ∙ leaves_among_tree n held.leaves held.count))
