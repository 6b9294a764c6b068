-- A share's own bytes of its trees go with what is known of them.
use Rattle.std.proofs.Common.{◌≡◌, ℕ, ◌+◌, ◌-◌, ◌*◌, ◌/◌, ◌^◌, ◌<◌, ◌≤◌, List, [], length, get_or, take, drop, slice_range, ap, subst, sym, ◌∙◌, arith}
use Rattle.std.proofs.Math.Nat.{pow-le-pow_right}
use Rattle.std.proofs.lemmas.List.{drop-drop, drop-take, length-drop, length-take-le, take-take}
use Rattle.std.proofs.lemmas.Nat.{pow_pos}
use Rattle.lemmas.proofs.Numbers.{next_power}
use Rattle.merkle.specs.Offers.{AreOfTree}
use Rattle.merkle.specs.Tree.{height, node_count, node_number, tree_nodes}
use Rattle.merkle.proofs.OwnOffers.{own_nodes_are_consistent}
use Rattle.merkle.proofs.TreeLemmas.{length-tree_nodes}
use Rattle.share_layout.specs.Geometry.{Geometry, segment_count, tree_size}
use Rattle.share_layout.specs.Layout.{layout_of, offsets_of, width}
use Rattle.share_layout.specs.Share.{IsShare, Sections}
use Rattle.share_layout.proofs.ShareLemmas.{parts_of}
use Rattle.share_verify.specs.TreeSection.{HoldsTree, hashes_in}
use Rattle.share_verify.proofs.ChunkLemmas.{get_or-first_chunks, length-first_chunks}
use Rattle.share_verify.proofs.SectionLemmas.{hashes_in_tree}
use Rattle.download_parts.specs.PlanLaws.{section_end}
use Rattle.download_parts.specs.Plan.{IsNodePiece, length_of, nodes_of, offset_of}
use Rattle.download_parts.specs.Range.{IsRange}
use Rattle.download_parts.specs.declared.part.NodePiece.{NodePiece}
use Rattle.download_parts.specs.declared.part.Nodes.{Nodes}
use Rattle.download_parts.specs.declared.part.Part.{Part}
use Rattle.download_parts.specs.declared.part.Part.TheVariants.{ShareHashes, BlockTree, CiphertextTree, Data}
use Rattle.download_parts.proofs.PartLemmas.{Lie, lie_inside, piece_lies}
use Rattle.download_parts.specs.Offers.{nodes_offered}
use Rattle.answer_laws.specs.Downloads.OwnParts.{DoGoOn, HoldsLeaves, OwnPartsHaveLengths, OwnPiecesGoOn, own_part}
use Rattle.answer_laws.proofs.Downloads.PieceSiblings.{offered_what, pieces_have_siblings}

-- a part of a part of a list
pub slice_part : (xs : List ℕ) (from to d l : ℕ) → d + l ≤ to - from → take l (drop d (slice_range xs from to)) ≡ take l (drop (from + d) xs)
slice_part xs from to d l inside =
    let m : ℕ = to - from - d in
    let sum : to - from ≡ d + m = omega (arith, inside) in
    ap (λ (n : ℕ). take l (drop d (take n (drop from xs)))) sum
    ∙ ap (take l) (drop-take d m (drop from xs))
    ∙ take-take l m (drop d (drop from xs)) (omega (arith, inside))
    ∙ ap (take l) (drop-drop d from xs)

-- some nodes of a row, among those of a tree
nodes_of_tree : (section : List ℕ) (leaves : List (List ℕ)) (n : Nodes) (bytes : List ℕ) → HoldsTree section leaves → n.row ≤ height (length leaves)
    → n.from + n.count ≤ 2 ^ n.row → bytes ≡ take (32 * n.count) (drop (32 * node_number n.row n.from) section) → length bytes ≡ 32 * n.count
    → AreOfTree leaves (nodes_offered n bytes)
nodes_of_tree section leaves n bytes holds low inside is long k number hash at =
    let found = offered_what n.row n.from (hashes_in bytes) k number hash at in
    let count : length (hashes_in bytes) ≡ n.count = length-first_chunks 32 (length bytes / 32) bytes ∙ omega (arith, long) in
    let few : k < n.count = omega (arith, found.0, count) in
    let at_number : number ≡ node_number n.row n.from + k = omega (arith, found.1, pow_pos n.row) in
    let rows = pow-le-pow_right {n = 2} (omega arith) {i = n.row} {j = height (length leaves)} low in
    let below : number < node_count (length leaves) = omega (arith, at_number, rows, few, inside, pow_pos n.row) in
    let nodes = hashes_in_tree section leaves holds in
    let all : length section / 32 ≡ length (tree_nodes leaves) = sym (length-first_chunks 32 (length section / 32) section) ∙ ap length nodes in
    let there : number < length section / 32 = omega (arith, all, below, length-tree_nodes leaves, next_power (height (length leaves))) in
    let begins : ℕ = 32 * node_number n.row n.from in
    let position : begins + k * 32 ≡ number * 32 = omega (arith, at_number) in
    let split : 32 * n.count ≡ k * 32 + (32 * n.count - k * 32) = omega (arith, few) in
    let mine : get_or (hashes_in bytes) k [] ≡ get_or (hashes_in section) number [] =
    get_or-first_chunks 32 (length bytes / 32) bytes k [] (omega (arith, few, long))
    ∙ ap (λ (l : List ℕ). take 32 (drop (k * 32) l)) (is ∙ ap (λ (j : ℕ). take j (drop begins section)) split)
    ∙ ap (take 32) (drop-take (k * 32) (32 * n.count - k * 32) (drop begins section))
    ∙ take-take 32 (32 * n.count - k * 32) (drop (k * 32) (drop begins section)) (omega (arith, few))
    ∙ ap (take 32) (drop-drop (k * 32) begins section ∙ ap (λ (j : ℕ). drop j section) position)
    ∙ sym (get_or-first_chunks 32 (length section / 32) section number [] there) in
    (below, found.2 ∙ mine ∙ ap (λ (l : List (List ℕ)). get_or l number []) nodes)

pub own_parts_have_lengths : OwnPartsHaveLengths
own_parts_have_lengths g a b num share s part range is of =
    let parts = parts_of g share s of.text of.lengths in
    let lies = lie_inside g a b part range is in
    let ends = lies.ends in
    let long = parts.tail.long in
    let within : offset_of g a b part + length_of g a b part ≤ length share = inside part ends long in
    length-take-le (length_of g a b part) (drop (offset_of g a b part) share) (omega (arith, length-drop (offset_of g a b part) share, within))
  where
    inside : (part : Part) → offset_of g a b part + length_of g a b part ≤ section_end (offsets_of g) part
        → length share ≡ (offsets_of g).extension_block + width (layout_of g) + length s.extension_block → offset_of g a b part + length_of g a b part ≤ length share
    inside ShareHashes ends long = omega (arith, ends, long)
    inside (BlockTree p) ends long = omega (arith, ends, long)
    inside (CiphertextTree p) ends long = omega (arith, ends, long)
    inside (Data i) ends long = omega (arith, ends, long)

module _ (g : Geometry) (a b num : ℕ) (share : List ℕ) (s : Sections) (p : NodePiece) (leaves : List (List ℕ)) (range : IsRange g a b) (is : IsNodePiece g a b p) (of : IsShare g num share s) where
  abbrev n : Nodes
  n = nodes_of g a b p

  goes_on : (section bytes : List ℕ) → HoldsLeaves g section leaves → bytes ≡ take (32 * n.count) (drop (32 * node_number n.row n.from) section) → length bytes ≡ 32 * n.count
      → DoGoOn g a b p leaves bytes
  goes_on section bytes holds own long =
      let lie : Lie (height (segment_count g)) n = piece_lies g a b p range is in
      let low : n.row ≤ height (length leaves) = subst (λ (c : ℕ). n.row ≤ height c) (sym holds.count) lie.low in
      let of_tree = nodes_of_tree section leaves n bytes holds.holds low lie.inside own long in
      record {
        of_tree = of_tree;
        go_on = λ t sound count knows tops.
            own_nodes_are_consistent t leaves (nodes_offered n bytes) (count ∙ sym holds.count) holds.holds.hashes knows of_tree
            (pieces_have_siblings g a b p t bytes range is sound count tops long);
      }

  fits : 32 * node_number n.row n.from + 32 * n.count ≤ tree_size g
  fits =
      let lie = piece_lies g a b p range is in
      let low = lie.low in
      let inside = lie.inside in
      let rows = pow-le-pow_right {n = 2} (omega arith) {i = n.row} {j = height (segment_count g)} low in
      omega (arith, rows, inside, pow_pos n.row)

  own_block_piece : HoldsLeaves g s.block_tree leaves → DoGoOn g a b p leaves (own_part g a b share (BlockTree p))
  own_block_piece holds =
      let here : s.block_tree ≡ slice_range share (offsets_of g).block_tree (offsets_of g).share_hashes = ap (λ (t : Sections). t.block_tree) (parts_of g share s of.text of.lengths).sections in
      goes_on s.block_tree (own_part g a b share (BlockTree p)) holds
      (sym (ap (λ (l : List ℕ). take (32 * n.count) (drop (32 * node_number n.row n.from) l)) here
      ∙ slice_part share (offsets_of g).block_tree (offsets_of g).share_hashes (32 * node_number n.row n.from) (32 * n.count) (omega (arith, fits))))
      (own_parts_have_lengths g a b num share s (BlockTree p) range is of)

  own_ciphertext_piece : HoldsLeaves g s.ciphertext_tree leaves → DoGoOn g a b p leaves (own_part g a b share (CiphertextTree p))
  own_ciphertext_piece holds =
      let here : s.ciphertext_tree ≡ slice_range share (offsets_of g).ciphertext_tree (offsets_of g).block_tree = ap (λ (t : Sections). t.ciphertext_tree) (parts_of g share s of.text of.lengths).sections in
      goes_on s.ciphertext_tree (own_part g a b share (CiphertextTree p)) holds
      (sym (ap (λ (l : List ℕ). take (32 * n.count) (drop (32 * node_number n.row n.from) l)) here
      ∙ slice_part share (offsets_of g).ciphertext_tree (offsets_of g).block_tree (32 * node_number n.row n.from) (32 * n.count) (omega (arith, fits))))
      (own_parts_have_lengths g a b num share s (CiphertextTree p) range is of)

pub own_pieces_go_on : OwnPiecesGoOn
own_pieces_go_on g a b num share s p leaves range is of = (own_block_piece g a b num share s p leaves range is of, own_ciphertext_piece g a b num share s p leaves range is of)
