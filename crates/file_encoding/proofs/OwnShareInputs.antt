-- What is hashed for an encoding's own share is hashed for the encoding.
use Rattle.std.proofs.Common.{◌≡◌, ℕ, ◌^◌, ◌<◌, ◌≤◌, List, [], ◌++◌, Contains, map, length, get_or, inl, inr, unwrap_or, ap, refl, subst, sym, ◌∙◌, arith, zero-add}
use Rattle.std.specs.List.{range_with_len}
use Rattle.std.proofs.lemmas.List.{ext_get_or}
use Rattle.std.proofs.lemmas.List.Elements.{Contains-append_cases}
use Rattle.std.proofs.lemmas.List.FromFn.{get_or-map-range_with_len, length-map-range_with_len}
use Rattle.lemmas.proofs.Members.{contains_cases}
use Rattle.tagged_hash.specs.TaggedHash.{tagged_input}
use Rattle.tagged_hash.specs.declared.tag.Tag.TheVariants.{Block, ExtensionBlock}
use Rattle.merkle.specs.Inputs.{AreAmong, path_inputs, tree_inputs}
use Rattle.merkle.specs.Path.{siblings_of}
use Rattle.merkle.specs.Tree.{height, sibling_number, tree_nodes}
use Rattle.merkle.proofs.OwnInputLemmas.{own_paths_are_within}
use Rattle.ueb.specs.Block.{ueb_text}
use Rattle.ueb.specs.Shape.{IsShape}
use Rattle.share_layout.specs.Geometry.{Geometry, segment_count}
use Rattle.share_layout.specs.Pieces.{segments_of}
use Rattle.share_layout.specs.Share.{Sections}
use Rattle.share_verify.specs.Inputs.{blocks_in, leaves_of, share_inputs, siblings_in}
use Rattle.share_verify.specs.Pieces.{block_hashes}
use Rattle.share_verify.specs.ShareHashes.{carried_hash, entries_in}
use Rattle.share_verify.specs.TreeSection.{HoldsTree, root_in}
use Rattle.share_verify.proofs.SectionLemmas.{leaves_in_tree, root_of_tree}
use Rattle.proved_parts.specs.FileOf.{segment_hashes}
use Rattle.file_encoding.specs.Encoding.{sections_of, share_leaves}
use Rattle.file_encoding.specs.Inputs.{ciphertext_inputs}
use Rattle.file_encoding.proofs.BoundOwn.{block_among, block_leaves, block_tree_among, blocks_among, ciphertext_tree_among, leaf_is, leaves_of_shares, length-block_leaves, length-segment_leaves, length-share_leaves, own_blocks, said, segment_leaves, share_tree_among}
use Rattle.file_encoding.proofs.OwnHashes.{siblings_found}
use Rattle.file_encoding.proofs.OwnShares.{blocks_are_joined, geometry_is}

module _ (g : Geometry) (ciphertext : List ℕ) (shape : IsShape g.needed g.total g.size g.segment_size) (whole : length ciphertext ≡ g.size) (num : ℕ) (low : num < g.total) where
  abbrev segments : List (List ℕ)
  segments = segments_of g ciphertext

  abbrev leaves : List (List ℕ)
  leaves = share_leaves g segments

  abbrev pub sections : Sections
  sections = sections_of g segments (ueb_text (said g ciphertext)) num

  -- ---- what its sections say

  own_tree : HoldsTree sections.block_tree (block_hashes (own_blocks g ciphertext num))
  own_tree = record { hashes = block_leaves g ciphertext num; nodes = refl }

  pub blocks_are : blocks_in (said g ciphertext) sections ≡ own_blocks g ciphertext num
  blocks_are = (blocks_are_joined g ciphertext (geometry_is g ciphertext shape whole) whole num low).again

  pub ciphertext_leaves : leaves_of (said g ciphertext) sections.ciphertext_tree ≡ segment_hashes segments
  ciphertext_leaves =
      leaves_in_tree (segment_count g) sections.ciphertext_tree (segment_hashes segments) (length-segment_leaves g ciphertext)
      record { hashes = segment_leaves g ciphertext; nodes = refl }

  pub leaves_of_blocks : leaves_of (said g ciphertext) sections.block_tree ≡ block_hashes (own_blocks g ciphertext num)
  leaves_of_blocks = leaves_in_tree (segment_count g) sections.block_tree (block_hashes (own_blocks g ciphertext num)) (length-block_leaves g ciphertext num) own_tree

  pub root_is : root_in sections.block_tree ≡ get_or leaves num []
  root_is = sym (leaf_is g ciphertext num low ∙ root_of_tree sections.block_tree (block_hashes (own_blocks g ciphertext num)) own_tree)

  inside : num < length leaves
  inside = omega (arith, low, length-share_leaves g ciphertext)

  few : length leaves ≤ 2 ^ 8
  few = omega (arith, shape.file.shares, length-share_leaves g ciphertext)

  pub siblings_are : siblings_in g.total num (entries_in sections.share_hashes) ≡ siblings_of leaves num
  siblings_are =
      let m : ℕ = height (length leaves) in
      let given : ℕ → List ℕ = λ j. unwrap_or (carried_hash (entries_in sections.share_hashes) (sibling_number m num j)) [] in
      let count : length (map given (range_with_len 0 m)) ≡ m = length-map-range_with_len given 0 m in
      let long : length (siblings_of leaves num) ≡ m = length-map-range_with_len (λ j. get_or (tree_nodes leaves) (sibling_number m num j) []) 0 m in
      ap (λ (n : ℕ). siblings_in n num (entries_in sections.share_hashes)) (sym (length-share_leaves g ciphertext))
      ∙ ext_get_or [] (map given (range_with_len 0 m)) (siblings_of leaves num) (count ∙ sym long) (λ j below.
      let less : j < m = omega (arith, below, count) in
      get_or-map-range_with_len given 0 m j j [] less (zero-add j)
      ∙ ap (λ o. unwrap_or o []) (siblings_found leaves num (leaves_of_shares g ciphertext) inside few j less))

  -- ---- among what the encoding hashes

  abbrev inputs : List (List ℕ)
  inputs = ciphertext_inputs g ciphertext

  same : AreAmong inputs inputs
  same x c = c

  way : AreAmong inputs (path_inputs (height g.total) num (root_in sections.block_tree) (siblings_in g.total num (entries_in sections.share_hashes)))
  way x c =
      share_tree_among g ciphertext (Contains inputs) same x (own_paths_are_within leaves num inside x
      (subst (λ (l : List (List ℕ)). Contains l x) (λ i. path_inputs (height (sym (length-share_leaves g ciphertext) i)) num (root_is i) (siblings_are i)) c))

  pub own_share_is_within : AreAmong inputs (share_inputs (said g ciphertext) num sections)
  own_share_is_within x c =
      let blocks : List (List ℕ) = map (tagged_input Block) (blocks_in (said g ciphertext) sections) in
      let first : List (List ℕ) = tree_inputs (leaves_of (said g ciphertext) sections.ciphertext_tree) in
      let second : List (List ℕ) = tree_inputs (leaves_of (said g ciphertext) sections.block_tree) in
      let path : List (List ℕ) = path_inputs (height g.total) num (root_in sections.block_tree) (siblings_in g.total num (entries_in sections.share_hashes)) in
      elim (contains_cases (tagged_input ExtensionBlock (ueb_text (said g ciphertext))) x (blocks ++ first ++ second ++ path) c) [
        | inl is ↦ subst (Contains inputs) is (block_among g ciphertext (Contains inputs) same)
        | inr rest ↦ elim (Contains-append_cases (blocks ++ first ++ second) path x rest) [
          | inr last ↦ way x last
          | inl before ↦ elim (Contains-append_cases (blocks ++ first) second x before) [
            | inr tree ↦
                block_tree_among g ciphertext (Contains inputs) same num low x
                (subst (λ (l : List (List ℕ)). Contains (tree_inputs l) x) leaves_of_blocks tree)
            | inl early ↦ elim (Contains-append_cases blocks first x early) [
              | inl block ↦
                  blocks_among g ciphertext (Contains inputs) same num low x
                  (subst (λ (l : List (List ℕ)). Contains (map (tagged_input Block) l) x) blocks_are block)
              | inr tree ↦
                  ciphertext_tree_among g ciphertext (Contains inputs) same x
                  (subst (λ (l : List (List ℕ)). Contains (tree_inputs l) x) ciphertext_leaves tree)
            ]
          ]
        ]
      ]
