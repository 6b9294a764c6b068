-- The segments of a known ciphertext.
use Rattle.std.proofs.Common.{◌≡◌, ℕ, ◌-◌, ◌/◌, ◌^◌, ◌<◌, ◌≤◌, List, [], length, map, slice_index_or, Contains, inl, inr, sym, subst, ◌∙◌, arith}
use Rattle.std.specs.List.{range_with_len}
use Rattle.std.proofs.lemmas.List.{get_or-map, length-map}
use Rattle.std.proofs.lemmas.List.FromFn.{length-map-range_with_len}
use Rattle.std.proofs.lemmas.List.Elements.{All-append, Contains-append_left, Contains-append_right, Contains-get_or}
use Rattle.lemmas.proofs.Members.{contains_cases}
use Rattle.tagged_hash.specs.Clash.{HasNoClash}
use Rattle.cap_text.specs.Cap.{VerifyCapValue, verify_cap_of}
use Rattle.tagged_hash.specs.TaggedHash.{empty_leaf_hash, tagged_hash, tagged_input}
use Rattle.tagged_hash.specs.declared.tag.Tag.TheVariants.{CiphertextSegment, ExtensionBlock}
use Rattle.tagged_hash.proofs.HashLemmas.{length-double_sha256}
use Rattle.merkle.specs.Inputs.{AreAmong, AreHashes, IsPathAmong, path_inputs, root_inputs, tree_inputs}
use Rattle.merkle.specs.Path.{path_root, siblings_of}
use Rattle.merkle.specs.Tree.{height, node_number, padded, sibling, tree_nodes, tree_root}
use Rattle.merkle.proofs.HeightLemmas.{height_room}
use Rattle.merkle.proofs.InputLemmas.{leaf_agrees}
use Rattle.merkle.proofs.OwnInputLemmas.{own_paths_are_within}
use Rattle.merkle.proofs.TreeLemmas.{length-padded_to, padded_to-leaf}
use Rattle.ueb.specs.Shape.{Contents}
use Rattle.share_layout.specs.Geometry.{segment_count}
use Rattle.share_layout.specs.Pieces.{segments_of}
use Rattle.share_verify.specs.CapBlock.{IsUebFor, geometry_by}
use Rattle.proved_parts.specs.Evidence.{segments_inputs}
use Rattle.proved_parts.specs.FileOf.{segment_hashes}
use Rattle.proved_parts.specs.Laws.{IsPartAmong, OwnPartsAreWithin, PartsAreOfTheFile}
use Rattle.proved_parts.proofs.Files.{length-pieces, mapped_are_hashes}
use Rattle.proved_parts.proofs.Segments.{data_agrees, one_ueb, path_among, segment_among}

member_map : (f : List ℕ → List ℕ) (xs : List (List ℕ)) (i : ℕ) → i < length xs → Contains (map f xs) (f (slice_index_or xs i []))
member_map f xs i inside =
    let all = length-map xs f in
    subst (Contains (map f xs)) (get_or-map f xs i [] [] inside) (Contains-get_or (map f xs) i [] (omega (arith, inside, all)))

-- the input of a segment, and those of its path, are among those of all segments
pub own_parts_are_within : OwnPartsAreWithin
own_parts_are_within g ciphertext number there input c =
    let segments : List (List ℕ) = segments_of g ciphertext in
    let leaves : List (List ℕ) = segment_hashes segments in
    let counted : length segments ≡ segment_count g = length-pieces (segment_count g) g.segment_size ciphertext in
    let inside : number < length segments = omega (arith, there, counted) in
    let within : number < length leaves = omega (arith, inside, length-map segments (tagged_hash CiphertextSegment)) in
    let hash : slice_index_or leaves number [] ≡ tagged_hash CiphertextSegment (slice_index_or segments number []) =
    get_or-map (tagged_hash CiphertextSegment) segments number [] [] inside in
    let long : length (siblings_of leaves number) ≡ height (length leaves) =
    length-map-range_with_len (λ i. slice_index_or (tree_nodes leaves) (node_number (height (length leaves) - i) (sibling (number / 2 ^ i))) []) 0 (height (length leaves)) in
    elim (contains_cases _ input _ c) [
      | inl e ↦
          Contains-append_left (map (tagged_input CiphertextSegment) segments) (tree_inputs leaves) input
          (subst (Contains (map (tagged_input CiphertextSegment) segments)) e (member_map (tagged_input CiphertextSegment) segments number inside))
      | inr more ↦
          Contains-append_right (map (tagged_input CiphertextSegment) segments) (tree_inputs leaves) input
          (own_paths_are_within leaves number within input
          (subst (λ (T : Type 0). T) (λ i. Contains (path_inputs (long i) number (sym hash i) (siblings_of leaves number)) input) more))
    ]

-- the leaves of a tree are hashes, and so are those that pad it
leaves_are : (segments : List (List ℕ)) → AreHashes (padded (segment_hashes segments))
leaves_are segments =
    let leaves : List (List ℕ) = segment_hashes segments in
    All-append (λ (h : List ℕ). length h ≡ 32) leaves _
    (mapped_are_hashes (tagged_hash CiphertextSegment) (λ s. length-double_sha256 _) segments)
    (mapped_are_hashes empty_leaf_hash (λ i. length-double_sha256 _) (range_with_len (length leaves) _))

-- a part by the same extension block
own_segment : (inputs : List (List ℕ)) → HasNoClash inputs → (cap : VerifyCapValue) (block : List ℕ) (u : Contents) (number : ℕ) (s : List ℕ) (path segments : List (List ℕ))
    → IsPartAmong inputs cap block u number s path → length segments ≡ segment_count (geometry_by u) → tree_root (segment_hashes segments) ≡ u.crypttext_root_hash
    → AreAmong inputs (segments_inputs segments) → s ≡ slice_index_or segments number []
own_segment inputs no_clash cap block u number s path segments p counted top own =
    let leaves : List (List ℕ) = segment_hashes segments in
    let n : ℕ = segment_count (geometry_by u) in
    let long : length leaves ≡ n = length-map segments (tagged_hash CiphertextSegment) ∙ counted in
    let there : number < length segments = subst (λ (k : ℕ). number < k) (sym counted) p.part.by.there in
    let within : number < length leaves = subst (λ (k : ℕ). number < k) (sym long) p.part.by.there in
    let room : length leaves ≤ 2 ^ height (length leaves) = height_room (length leaves) in
    let by : IsPathAmong inputs (height (length leaves)) number (tagged_hash CiphertextSegment s) path =
    subst (λ (k : ℕ). IsPathAmong inputs (height k) number (tagged_hash CiphertextSegment s) path) (sym long) (path_among inputs cap block u number s path p) in
    let leads : path_root (height (length leaves)) number (tagged_hash CiphertextSegment s) path ≡ u.crypttext_root_hash =
    subst (λ (k : ℕ). path_root (height k) number (tagged_hash CiphertextSegment s) path ≡ u.crypttext_root_hash) (sym long) p.part.by.path.2 in
    let texts : List (List ℕ) = map (tagged_input CiphertextSegment) segments in
    let nodes : AreAmong inputs (root_inputs (height (length leaves)) (padded leaves)) =
    (λ x c. own x (Contains-append_right texts (tree_inputs leaves) x (Contains-append_right _ (root_inputs (height (length leaves)) (padded leaves)) x c))) in
    let leaf = leaf_agrees inputs no_clash (height (length leaves)) number (padded leaves) (tagged_hash CiphertextSegment s) path
    (omega (arith, within, room)) (length-padded_to (2 ^ height (length leaves)) leaves room) (leaves_are segments) nodes by (top ∙ sym leads) in
    let mine : tagged_hash CiphertextSegment s ≡ tagged_hash CiphertextSegment (slice_index_or segments number []) =
    leaf ∙ padded_to-leaf (2 ^ height (length leaves)) leaves number within ∙ get_or-map (tagged_hash CiphertextSegment) segments number [] [] there in
    data_agrees inputs no_clash CiphertextSegment s (slice_index_or segments number []) (segment_among inputs cap block u number s path p)
    (own _ (Contains-append_left texts (tree_inputs leaves) _ (member_map (tagged_input CiphertextSegment) segments number there))) mine

pub parts_are_of_the_file : PartsAreOfTheFile
parts_are_of_the_file inputs no_clash cap extension_block other u v ciphertext file number segment siblings is block own p =
    let verify = verify_cap_of cap in
    let same : other ≡ extension_block = data_agrees inputs no_clash ExtensionBlock other extension_block p.block block (p.part.block.hash ∙ sym is.block.hash) in
    let one : v ≡ u = one_ueb verify extension_block v u (subst (λ (x : List ℕ). IsUebFor verify x v) same p.part.block) is.block in
    own_segment inputs no_clash verify other u number segment siblings (segments_of (geometry_by u) ciphertext)
    (subst (λ (w : Contents). IsPartAmong inputs verify other w number segment siblings) one p)
    (length-pieces (segment_count (geometry_by u)) (geometry_by u).segment_size ciphertext) is.root own
