-- Without a clash a block that leads to the roots of an encoding's extension block is the encoding's; and what such blocks decode to is its segment.
use Rattle.std.proofs.Common.{◌≡◌, ◌≢◌, ℕ, ◌<◌, List, [], Contains, map, length, get_or, slice_index_or, ap, subst, sym, ◌∙◌, arith}
use Rattle.std.proofs.lemmas.List.{get_or-map, length-map}
use Rattle.std.proofs.lemmas.List.Elements.{Contains-get_or}
use Rattle.zfec_code.specs.Rows.{AreDistinct}
use Rattle.tagged_hash.specs.Clash.{HasNoClashIn}
use Rattle.tagged_hash.specs.TaggedHash.{tagged_hash, tagged_input}
use Rattle.tagged_hash.specs.declared.tag.Tag.TheVariants.{Block, CiphertextSegment}
use Rattle.merkle.specs.Inputs.{AreHashes, tree_inputs}
use Rattle.merkle.specs.Path.{LeadsBy, path_root, siblings_of}
use Rattle.merkle.specs.Tree.{height, tree_root}
use Rattle.merkle.proofs.InputLemmas.{AreOf, IsPathOf, one_path}
use Rattle.merkle.proofs.OwnInputLemmas.{own_paths_are_within}
use Rattle.merkle.proofs.PathLemmas.{siblings_of-lead}
use Rattle.ueb.specs.Shape.{Contents, IsShape}
use Rattle.share_layout.specs.Geometry.{Geometry, segment_count}
use Rattle.share_layout.specs.Pieces.{block_at, segments_of}
use Rattle.share_verify.specs.CapBlock.{geometry_by}
use Rattle.share_verify.specs.Pieces.{block_hashes, joined}
use Rattle.proved_parts.specs.Decoding.{DecodesBlocks}
use Rattle.proved_parts.specs.FileOf.{segment_hashes}
use Rattle.proved_parts.proofs.Files.{siblings_are_hashes}
use Rattle.proved_parts.proofs.Segments.{data_agrees_in}
use Rattle.file_encoding.specs.Encoding.{block_of, blocks_of, share_leaves}
use Rattle.file_encoding.specs.Inputs.{ciphertext_inputs}
use Rattle.file_encoding.proofs.BoundOwn.{block_leaves, block_tree_among, blocks_among, ciphertext_tree_among, leaf_is, leaves_of_shares, length-block_leaves, length-segment_leaves, length-segments, length-share_leaves, own_blocks, said, segment_leaves, share_tree_among}
use Rattle.file_encoding.proofs.Bytes.{AreBytes}
use Rattle.file_encoding.proofs.OwnSegments.{block_is, decoded_is, piece_at}

-- ---- the leaf of a tree

-- by these siblings a hash leads from a position to a root; the hash and they have 32 bytes each, and all that is hashed on the way is of a kind
pub record LeadsIn (IsOne : List ℕ → Type 0) (count : ℕ) (root : List ℕ) (position : ℕ) (hash : List ℕ) (siblings : List (List ℕ)) : Type 0 where
  pub leads : LeadsBy count root position hash siblings
  pub path : IsPathOf IsOne (height count) position hash siblings

-- without a clash the hash that leads to a tree's root is the tree's leaf
pub leaf_is_own : (IsOne : List ℕ → Type 0) → HasNoClashIn IsOne → (count : ℕ) (leaves : List (List ℕ)) → length leaves ≡ count → AreHashes leaves → AreOf IsOne (tree_inputs leaves)
    → (position : ℕ) (hash : List ℕ) (siblings : List (List ℕ)) → LeadsIn IsOne count (tree_root leaves) position hash siblings → hash ≡ get_or leaves position []
leaf_is_own IsOne no_clash count leaves long are among position hash siblings l =
    let low : position < length leaves = subst (λ (n : ℕ). position < n) (sym long) l.leads.0 in
    let m : ℕ = height (length leaves) in
    let mine : List ℕ = get_or leaves position [] in
    let own = siblings_of-lead leaves position low in
    let size : length (siblings_of leaves position) ≡ m = own.1 in
    let path : IsPathOf IsOne m position mine (siblings_of leaves position) = record {
      hash_length = are position [] low;
      sibling_lengths = λ i below. siblings_are_hashes leaves position are low i [] (subst (λ (n : ℕ). i < n) (sym size) below);
      among = λ x c. among x (own_paths_are_within leaves position low x c);
    } in
    let other : IsPathOf IsOne m position hash siblings = subst (λ (n : ℕ). IsPathOf IsOne (height n) position hash siblings) (sym long) l.path in
    let leads : path_root m position hash siblings ≡ tree_root leaves = subst (λ (n : ℕ). path_root (height n) position hash siblings ≡ tree_root leaves) (sym long) l.leads.2 in
    (one_path IsOne no_clash m position hash mine siblings (siblings_of leaves position) other path (leads ∙ sym own.2)).hash

-- ---- the blocks of an encoding

-- the block of this segment in this share, by the extension block's roots
pub record IsBlockIn (IsOne : List ℕ → Type 0) (u : Contents) (share number : ℕ) (block : List ℕ) : Type 0 where
  pub hashed : IsOne (tagged_input Block block)
  pub root : List ℕ
  pub in_share : List (List ℕ)
  pub leads_in_share : LeadsIn IsOne (segment_count (geometry_by u)) root number (tagged_hash Block block) in_share
  pub in_file : List (List ℕ)
  pub leads_in_file : LeadsIn IsOne u.total_shares u.share_root_hash share root in_file

module _ (IsOne : List ℕ → Type 0) (no_clash : HasNoClashIn IsOne) (g : Geometry) (ciphertext : List ℕ) (among : AreOf IsOne (ciphertext_inputs g ciphertext)) where
  -- without a clash a block that leads to the roots is the encoding's
  pub block_is_own : (share number : ℕ) (block : List ℕ) → IsBlockIn IsOne (said g ciphertext) share number block → block ≡ get_or (own_blocks g ciphertext share) number []
  block_is_own share number block b =
      let mine : List (List ℕ) = own_blocks g ciphertext share in
      let low : share < g.total = b.leads_in_file.leads.0 in
      let there : number < segment_count g = b.leads_in_share.leads.0 in
      let count = length-block_leaves g ciphertext share in
      let long : length mine ≡ segment_count g = sym (length-map mine (tagged_hash Block)) ∙ count in
      let inside : number < length mine = omega (arith, there, long) in
      let root : b.root ≡ tree_root (block_hashes mine) =
      leaf_is_own IsOne no_clash g.total (share_leaves g (segments_of g ciphertext)) (length-share_leaves g ciphertext) (leaves_of_shares g ciphertext)
      (share_tree_among g ciphertext IsOne among) share b.root b.in_file b.leads_in_file
      ∙ leaf_is g ciphertext share low in
      let hash : tagged_hash Block block ≡ get_or (block_hashes mine) number [] =
      leaf_is_own IsOne no_clash (segment_count g) (block_hashes mine) count (block_leaves g ciphertext share)
      (block_tree_among g ciphertext IsOne among share low) number (tagged_hash Block block) b.in_share
      (subst (λ (r : List ℕ). LeadsIn IsOne (segment_count g) r number (tagged_hash Block block) b.in_share) root b.leads_in_share) in
      let input : Contains (map (tagged_input Block) mine) (tagged_input Block (get_or mine number [])) =
      subst (Contains (map (tagged_input Block) mine)) (get_or-map (tagged_input Block) mine number [] [] inside) (Contains-get_or (map (tagged_input Block) mine) number [] (rw length-map inside)) in
      data_agrees_in IsOne no_clash Block block (get_or mine number []) b.hashed (blocks_among g ciphertext IsOne among share low _ input)
      (hash ∙ get_or-map (tagged_hash Block) mine number [] [] inside)

  -- nor is any other hash that of its segment
  pub segment_hash_is_own : (number : ℕ) (leaf : List ℕ) (siblings : List (List ℕ)) → LeadsIn IsOne (segment_count g) (tree_root (segment_hashes (segments_of g ciphertext))) number leaf siblings
      → leaf ≡ get_or (segment_hashes (segments_of g ciphertext)) number []
  segment_hash_is_own number leaf siblings leads =
      leaf_is_own IsOne no_clash (segment_count g) (segment_hashes (segments_of g ciphertext)) (length-segment_leaves g ciphertext) (segment_leaves g ciphertext)
      (ciphertext_tree_among g ciphertext IsOne among) number leaf siblings leads

-- ---- its segments

-- as many different shares as are needed
pub record AreEnough (g : Geometry) (numbers : List ℕ) : Type 0 where
  pub count : length numbers ≡ g.needed
  pub distinct : AreDistinct numbers
  pub low : (m : ℕ) → m < g.needed → slice_index_or numbers m 0 < g.total

-- what blocks of an encoding decode to is its segment
pub own_blocks_decode : (g : Geometry) (ciphertext : List ℕ) → IsShape g.needed g.total g.size g.segment_size → length ciphertext ≡ g.size → AreBytes ciphertext
    → (number : ℕ) (numbers : List ℕ) (blocks : List (List ℕ)) (segment : List ℕ) → number < segment_count g → AreEnough g numbers
    → ((m : ℕ) → m < g.needed → get_or blocks m [] ≡ get_or (own_blocks g ciphertext (get_or numbers m 0)) number [])
    → DecodesBlocks g numbers blocks number segment → segment ≡ get_or (segments_of g ciphertext) number []
own_blocks_decode g ciphertext shape whole bytes number numbers blocks segment there enough own decoded =
    let segments : List (List ℕ) = segments_of g ciphertext in
    let at : (m : ℕ) → m < g.needed → get_or blocks m [] ≡ block_at g number (joined (blocks_of g.needed (get_or numbers m 0) segments)) =
    λ m below.
    let i : ℕ = get_or numbers m 0 in
    own m below
    ∙ get_or-map (block_of g.needed i) segments number [] [] (omega (arith, there, length-segments g ciphertext))
    ∙ ap (block_of g.needed i) (piece_at (segment_count g) g.segment_size ciphertext number there)
    ∙ sym (block_is g ciphertext shape whole bytes i number (enough.low m below) there) in
    decoded_is g ciphertext shape whole bytes number numbers blocks decoded.padded segment there enough.count enough.distinct enough.low at decoded.shares decoded.cut
    ∙ sym (piece_at (segment_count g) g.segment_size ciphertext number there)

-- blocks of one segment, each by the extension block's roots, decode to a segment that has not the hash that leads to the root of the ciphertext tree
pub record IsNoCodeWordIn (IsOne : List ℕ → Type 0) (u : Contents) : Type 0 where
  pub number : ℕ
  pub there : number < segment_count (geometry_by u)
  pub numbers : List ℕ
  pub enough : AreEnough (geometry_by u) numbers
  pub blocks : List (List ℕ)
  pub proved : (m : ℕ) → m < u.needed_shares → IsBlockIn IsOne u (slice_index_or numbers m 0) number (slice_index_or blocks m [])
  pub segment : List ℕ
  pub decoded : DecodesBlocks (geometry_by u) numbers blocks number segment
  pub leaf : List ℕ
  pub siblings : List (List ℕ)
  pub leads : LeadsIn IsOne (segment_count (geometry_by u)) u.crypttext_root_hash number leaf siblings
  pub differs : leaf ≢ tagged_hash CiphertextSegment segment

-- without a clash no such blocks are found for an encoding's extension block
pub is_a_code_word : (IsOne : List ℕ → Type 0) → HasNoClashIn IsOne → (g : Geometry) (ciphertext : List ℕ) → IsShape g.needed g.total g.size g.segment_size → length ciphertext ≡ g.size
    → AreBytes ciphertext → AreOf IsOne (ciphertext_inputs g ciphertext) → ¬ IsNoCodeWordIn IsOne (said g ciphertext)
is_a_code_word IsOne no_clash g ciphertext shape whole bytes among w =
    let segment : w.segment ≡ get_or (segments_of g ciphertext) w.number [] =
    own_blocks_decode g ciphertext shape whole bytes w.number w.numbers w.blocks w.segment w.there w.enough
    (λ m below. block_is_own IsOne no_clash g ciphertext among (get_or w.numbers m 0) w.number (get_or w.blocks m []) (w.proved m below)) w.decoded in
    w.differs (segment_hash_is_own IsOne no_clash g ciphertext among w.number w.leaf w.siblings w.leads
    ∙ get_or-map (tagged_hash CiphertextSegment) (segments_of g ciphertext) w.number [] [] (omega (arith, w.there, length-segments g ciphertext))
    ∙ ap (tagged_hash CiphertextSegment) (sym segment))
