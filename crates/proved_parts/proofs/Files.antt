-- The segments of the file of a cap are parts of it.
use Rattle.std.proofs.Common.{◌≡◌, ℕ, zero, suc, zero-add, map, ◌∷◌, ◌+◌, ◌-◌, ◌*◌, ◌/◌, ◌^◌, ◌<◌, List, [], length, take, drop, get_or, min, ap, sym, subst, refl, ◌∙◌, arith}
use Rattle.std.proofs.lemmas.List.{drop-drop, get_or-map, get_or_default, length-drop, length-map, length-take}
use Rattle.std.proofs.lemmas.List.FromFn.{get_or-map-range_with_len, length-map-range_with_len}
use Rattle.std.proofs.lemmas.List.Elements.{All-cons}
use Rattle.std.proofs.lemmas.Nat.{shr_below}
use Rattle.merkle.specs.Path.{LeadsBy, siblings_of}
use Rattle.merkle.specs.Tree.{height, node_number, sibling, tree_nodes, tree_root}
use Rattle.merkle.proofs.HeightLemmas.{height_room}
use Rattle.merkle.proofs.TreeLemmas.{tree_nodes_node}
use Rattle.merkle.proofs.PathLemmas.{sibling_below, siblings_of-lead}
use Rattle.tagged_hash.specs.TaggedHash.{tagged_hash}
use Rattle.tagged_hash.specs.declared.tag.Tag.TheVariants.{CiphertextSegment}
use Rattle.share_layout.specs.Geometry.{Geometry, segment_count}
use Rattle.share_layout.specs.Pieces.{pieces, segment_length, segments_of}
use Rattle.share_verify.specs.CapBlock.{geometry_by}
use Rattle.proved_parts.specs.FileOf.{segment_hashes}
use Rattle.proved_parts.specs.Laws.{FilesOfCapsHaveParts}
use Rattle.merkle.specs.Inputs.{AreHashes}
use Rattle.share_verify.proofs.SectionLemmas.{length-tree_node}
use Rattle.tagged_hash.proofs.HashLemmas.{length-double_sha256}

pub length-pieces : (n size : ℕ) (text : List ℕ) → length (pieces n size text) ≡ n
length-pieces zero size text = refl
length-pieces (suc n) size text = ap suc (length-pieces n size (drop size text))

-- a piece by its number
pub get_or-pieces : (n size i : ℕ) (text d : List ℕ) → i < n → get_or (pieces n size text) i d ≡ take size (drop (i * size) text)
get_or-pieces zero size i text d inside = absurd (omega arith)
get_or-pieces (suc n) size zero text d inside = let none : 0 * size ≡ 0 = omega arith in ap (λ m. take size (drop m text)) (sym none)
get_or-pieces (suc n) size (suc i) text d inside =
    let next : size + i * size ≡ suc i * size = omega arith in
    get_or-pieces n size i (drop size text) d (omega (arith, inside))
    ∙ ap (take size) (drop-drop (i * size) size text ∙ ap (λ m. drop m text) next)

module _ (g : Geometry) (ciphertext : List ℕ) (number : ℕ) (there : number < segment_count g) where
  abbrev segments : List (List ℕ)
  segments = segments_of g ciphertext

  abbrev segment : List ℕ
  segment = get_or segments number []

  -- how long a segment is
  pub length-segment : length ciphertext ≡ g.size → length segment ≡ segment_length g number
  length-segment whole =
      ap length (get_or-pieces (segment_count g) g.segment_size number ciphertext [] there)
      ∙ length-take g.segment_size (drop (number * g.segment_size) ciphertext)
      ∙ ap (min g.segment_size) (length-drop (number * g.segment_size) ciphertext ∙ ap (λ (n : ℕ). n - number * g.segment_size) whole)

  -- its hash leads to the root
  pub segment_leads : LeadsBy (segment_count g) (tree_root (segment_hashes segments)) number (tagged_hash CiphertextSegment segment) (siblings_of (segment_hashes segments) number)
  segment_leads =
      let counted : length segments ≡ segment_count g = length-pieces (segment_count g) g.segment_size ciphertext in
      let leaves : length (segment_hashes segments) ≡ segment_count g = length-map segments (tagged_hash CiphertextSegment) ∙ counted in
      let leaf : get_or (segment_hashes segments) number [] ≡ tagged_hash CiphertextSegment segment =
      get_or-map (tagged_hash CiphertextSegment) segments number [] [] (subst (λ (n : ℕ). number < n) (sym counted) there) in
      subst (λ (hash : List ℕ). LeadsBy (segment_count g) (tree_root (segment_hashes segments)) number hash (siblings_of (segment_hashes segments) number)) leaf
      (subst (λ (n : ℕ). LeadsBy n (tree_root (segment_hashes segments)) number (get_or (segment_hashes segments) number []) (siblings_of (segment_hashes segments) number)) leaves
      (siblings_of-lead (segment_hashes segments) number (subst (λ (n : ℕ). number < n) (sym leaves) there)))

-- hashes of anything are hashes
pub mapped_are_hashes : {X : Type 0} (f : X → List ℕ) → ((x : X) → length (f x) ≡ 32) → (xs : List X) → AreHashes (map f xs)
mapped_are_hashes f long [] = λ i d h. absurd (omega arith)
mapped_are_hashes f long (x ∷ xs) = All-cons (λ (h : List ℕ). length h ≡ 32) (f x) (map f xs) (long x) (mapped_are_hashes f long xs)

-- the siblings of a leaf are hashes
pub siblings_are_hashes : (leaves : List (List ℕ)) (leaf : ℕ) → AreHashes leaves → leaf < length leaves → AreHashes (siblings_of leaves leaf)
siblings_are_hashes leaves leaf are inside i d h =
    let m : ℕ = height (length leaves) in
    let number : ℕ → ℕ = λ i. node_number (m - i) (sibling (leaf / 2 ^ i)) in
    let room = height_room (length leaves) in
    let above : leaf < 2 ^ m = omega arith in
    let low : i < m = omega (arith, h, length-map-range_with_len (λ j. get_or (tree_nodes leaves) (number j) []) 0 m) in
    let sum : m - i + i ≡ m = omega arith in
    let below : sibling (leaf / 2 ^ i) < 2 ^ (m - i) =
    sibling_below (m - i) (leaf / 2 ^ i) (omega arith) (shr_below leaf (m - i) i (rw sum above)) in
    ap length
    (get_or_default (siblings_of leaves leaf) i d [] h
    ∙ get_or-map-range_with_len (λ j. get_or (tree_nodes leaves) (number j) []) 0 m i i [] low (zero-add i)
    ∙ tree_nodes_node leaves (m - i) (sibling (leaf / 2 ^ i)) (omega arith) below)
    ∙ length-tree_node leaves are (m - i) (sibling (leaf / 2 ^ i)) (omega arith) below

-- and so each segment of the file of a cap is a part of it
pub files_of_caps_have_parts : FilesOfCapsHaveParts
files_of_caps_have_parts cap extension_block u ciphertext file is number there = record {
  block = is.block;
  by = record {
    there = there;
    size = length-segment (geometry_by u) ciphertext number there (is.size ∙ sym is.block.size);
    hashes =
        (let segments = segments_of (geometry_by u) ciphertext in
        siblings_are_hashes (segment_hashes segments) number (mapped_are_hashes (tagged_hash CiphertextSegment) (λ s. length-double_sha256 _) segments)
        (omega (arith, there, length-map segments (tagged_hash CiphertextSegment), length-pieces (segment_count (geometry_by u)) (geometry_by u).segment_size ciphertext)));
    path =
        subst (λ (root : List ℕ). LeadsBy (segment_count (geometry_by u)) root number (tagged_hash CiphertextSegment (get_or (segments_of (geometry_by u) ciphertext) number []))
        (siblings_of (segment_hashes (segments_of (geometry_by u) ciphertext)) number)) is.root
        (segment_leads (geometry_by u) ciphertext number there);
  };
}
