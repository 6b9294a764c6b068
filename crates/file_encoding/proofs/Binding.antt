-- Without a clash a share that passes for the cap of an encoding is the encoding's.
use Rattle.std.proofs.Common.{◌≡◌, ℕ, ◌+◌, ◌*◌, ◌/◌, ◌^◌, ◌<◌, ◌≤◌, List, [], ◌++◌, Some, length, map, get_or, replicate, unwrap_or, Contains, ap, refl, subst, sym, ◌∙◌, arith, zero-add}
use Rattle.std.specs.Prelude.{All}
use Rattle.std.specs.Int.{w16, to_be_bytes}
use Rattle.std.specs.List.{flat_map, range_with_len}
use Rattle.std.proofs.lemmas.List.Elements.{Contains-append_left, Contains-append_right}
use Rattle.std.proofs.lemmas.List.FromFn.{get_or-map-range_with_len, length-map-range_with_len}
use Rattle.aes_ctr.specs.CounterMode.{xored}
use Rattle.aes_ctr.proofs.StreamLemmas.{length-xored_from}
use Rattle.tagged_hash.specs.Clash.{HasNoClash}
use Rattle.tagged_hash.specs.ConvergentKey.{convergent_key_of}
use Rattle.tagged_hash.specs.TaggedHash.{tagged_input}
use Rattle.tagged_hash.specs.declared.tag.Tag.TheVariants.{Block, ExtensionBlock}
use Rattle.merkle.proofs.HeightLemmas.{height_below, height_room}
use Rattle.merkle.proofs.InputLemmas.{member_there, paths_agree}
use Rattle.merkle.proofs.NumberLemmas.{length-needed_numbers}
use Rattle.merkle.proofs.OwnInputLemmas.{own_paths_are_within}
use Rattle.merkle.proofs.PathLemmas.{siblings_of-lead}
use Rattle.merkle.proofs.TreeLemmas.{node-leaf, padded_to-leaf, tree_nodes_node}
use Rattle.merkle.specs.Inputs.{AreAmong, IsPathAmong, path_inputs, tree_inputs}
use Rattle.merkle.specs.Path.{path_root, siblings_of}
use Rattle.merkle.specs.Tree.{height, needed_numbers, node_number, padded, sibling_number, tree_nodes, tree_root}
use Rattle.cap_text.specs.Cap.{VerifyCapValue, verify_cap_of}
use Rattle.ueb.specs.Block.{ueb_text}
use Rattle.ueb.specs.Shape.{Contents, IsShape}
use Rattle.share_layout.specs.Geometry.{Geometry, block_size, geometry_of, segment_count, tree_size}
use Rattle.share_layout.specs.Pieces.{segments_of}
use Rattle.share_layout.specs.Share.{Sections, share_bytes}
use Rattle.share_verify.specs.CapBlock.{IsUebFor}
use Rattle.share_verify.specs.Inputs.{DoLead, blocks_in, leaves_of, share_inputs, siblings_in}
use Rattle.share_verify.specs.Pieces.{block_hashes, joined}
use Rattle.share_verify.specs.ShareHashes.{carried_hash, entries_in}
use Rattle.share_verify.specs.TreeSection.{root_in}
use Rattle.share_verify.specs.Verify.{IsSound}
use Rattle.share_verify.proofs.ChunkLemmas.{length-chunk, length-first_chunks}
use Rattle.share_verify.proofs.Leading.{sound_leads}
use Rattle.share_verify.proofs.SectionLemmas.{leaves_in_tree, length-block_hashes, root_of_tree}
use Rattle.proved_parts.proofs.Files.{siblings_are_hashes}
use Rattle.proved_parts.proofs.Segments.{data_agrees, one_ueb}
use Rattle.proved_parts.specs.FileOf.{segment_hashes}
use Rattle.file_encoding.specs.Encoding.{ciphertext_encoding, encoding_of, extension_block_contents, sections_of, share_hashes, share_leaves, share_of}
use Rattle.file_encoding.specs.Inputs.{ciphertext_inputs}
use Rattle.file_encoding.proofs.OwnShares.{ciphertext_shares_pass, length-tree_root}
use Rattle.merkle.proofs.OneTree.{siblings_agree, trees_agree}
use Rattle.file_encoding.specs.Binding.{CiphertextSharesAreBound, FileSharesAreBound, OwnSharesAreWithin}
use Rattle.file_encoding.proofs.BoundBlocks.{joined_pieces, same_data}
use Rattle.file_encoding.proofs.BoundEntries.{carried_long, section_is}
use Rattle.file_encoding.proofs.OwnEvidence.{ciphertext_among}
use Rattle.file_encoding.proofs.OwnShareInputs.{own_share_is_within, sections}
use Rattle.file_encoding.proofs.RisingNumbers.{beside, needed_are_numbers, on_way, own}
use Rattle.file_encoding.proofs.BoundOwn.{block_among, block_leaves, block_tree_among, blocks_among, blocks_fit, ciphertext_tree_among, leaf_is, leaves_of_shares, length-block_leaves, length-segment_leaves, length-share_leaves, own_blocks, said, segment_leaves, share_tree_among}

module _ (inputs : List (List ℕ)) (no_clash : HasNoClash inputs) (g : Geometry) (key ciphertext : List ℕ)
    (shape : IsShape g.needed g.total g.size g.segment_size) (whole : length ciphertext ≡ g.size)
    (mine : AreAmong inputs (ciphertext_inputs g ciphertext)) where
  abbrev segments : List (List ℕ)
  segments = segments_of g ciphertext

  abbrev u : Contents
  u = said g ciphertext

  abbrev leaves : List (List ℕ)
  leaves = share_leaves g segments

  abbrev m : ℕ
  m = height g.total

  module _ (num : ℕ) (share : List ℕ) (s : Sections) (cap : VerifyCapValue) (sound : IsSound cap num share u s)
      (theirs : AreAmong inputs (share_inputs u num s)) where
    abbrev given : List (List ℕ)
    given = siblings_in g.total num (entries_in s.share_hashes)

    -- ---- what is hashed for the share

    abbrev blocks_first : List (List ℕ)
    blocks_first = map (tagged_input Block) (blocks_in u s)

    abbrev ciphertext_tree_next : List (List ℕ)
    ciphertext_tree_next = tree_inputs (leaves_of u s.ciphertext_tree)

    abbrev block_tree_next : List (List ℕ)
    block_tree_next = tree_inputs (leaves_of u s.block_tree)

    abbrev way_last : List (List ℕ)
    way_last = path_inputs m num (root_in s.block_tree) given

    behind : AreAmong inputs (blocks_first ++ ciphertext_tree_next ++ block_tree_next ++ way_last)
    behind x c = theirs x (member_there (tagged_input ExtensionBlock s.extension_block) x (blocks_first ++ ciphertext_tree_next ++ block_tree_next ++ way_last) c)

    their_blocks : AreAmong inputs blocks_first
    their_blocks x c =
        behind x (Contains-append_left (blocks_first ++ ciphertext_tree_next ++ block_tree_next) way_last x
        (Contains-append_left (blocks_first ++ ciphertext_tree_next) block_tree_next x (Contains-append_left blocks_first ciphertext_tree_next x c)))

    their_ciphertext_tree : AreAmong inputs ciphertext_tree_next
    their_ciphertext_tree x c =
        behind x (Contains-append_left (blocks_first ++ ciphertext_tree_next ++ block_tree_next) way_last x
        (Contains-append_left (blocks_first ++ ciphertext_tree_next) block_tree_next x (Contains-append_right blocks_first ciphertext_tree_next x c)))

    their_block_tree : AreAmong inputs block_tree_next
    their_block_tree x c =
        behind x (Contains-append_left (blocks_first ++ ciphertext_tree_next ++ block_tree_next) way_last x
        (Contains-append_right (blocks_first ++ ciphertext_tree_next) block_tree_next x c))

    their_way : AreAmong inputs way_last
    their_way x c = behind x (Contains-append_right (blocks_first ++ ciphertext_tree_next ++ block_tree_next) way_last x c)

    -- ---- one section after another

    low : num < g.total
    low = sound.reads.layout.number

    lead : DoLead u num s
    lead = sound_leads cap num share u s sound

    ciphertext_tree_is : s.ciphertext_tree ≡ joined (tree_nodes (segment_hashes segments))
    ciphertext_tree_is =
        let tree = sound.sections.ciphertext_tree in
        let held = leaves_in_tree (segment_count g) s.ciphertext_tree tree.leaves tree.count tree.holds in
        let same = trees_agree inputs no_clash tree.leaves (segment_hashes segments) tree.holds.hashes (segment_leaves g ciphertext)
        (tree.count ∙ sym (length-segment_leaves g ciphertext))
        (subst (λ (l : List (List ℕ)). AreAmong inputs (tree_inputs l)) held their_ciphertext_tree)
        (ciphertext_tree_among g ciphertext (Contains inputs) mine) tree.root in
        tree.holds.nodes ∙ ap (λ (l : List (List ℕ)). joined (tree_nodes l)) same

    -- the two ways to the root over all shares
    few : m ≤ 8
    few = height_below g.total 8 (omega (arith, shape.file.shares))

    inside : num < length leaves
    inside = omega (arith, low, length-share_leaves g ciphertext)

    within : num < 2 ^ m
    within = omega (arith, low, height_room g.total)

    height_is : height (length leaves) ≡ m
    height_is = ap height (length-share_leaves g ciphertext)

    root_is : tree_root (block_hashes (blocks_in u s)) ≡ root_in s.block_tree
    root_is = root_of_tree s.block_tree (block_hashes (blocks_in u s)) sound.sections.blocks

    -- what is found for a sibling
    given_is : (i : ℕ) → i < m → get_or given i [] ≡ get_or sound.sections.share_hashes.siblings i []
    given_is i below =
        get_or-map-range_with_len (λ j. unwrap_or (carried_hash (entries_in s.share_hashes) (sibling_number m num j)) []) 0 m i i [] below (zero-add i)
        ∙ ap (λ o. unwrap_or o []) (sound.sections.share_hashes.carried i below)

    entries_long : All (λ (e : List ℕ). length e ≡ 34) (entries_in s.share_hashes)
    entries_long k d below =
        let long = sound.reads.layout.lengths.share_hashes in
        let count : length s.share_hashes / 34 ≡ m + 1 = omega (arith, long) in
        length-chunk 34 (length s.share_hashes / 34) s.share_hashes k d (omega (arith, long, count)) (omega (arith, below, length-first_chunks 34 (length s.share_hashes / 34) s.share_hashes))

    their_path : IsPathAmong inputs m num (root_in s.block_tree) given
    their_path = record {
      hash_length = ap length (sym root_is) ∙ length-tree_root (block_hashes (blocks_in u s)) sound.sections.blocks.hashes;
      sibling_lengths = λ i below.
          ap length (given_is i below)
          ∙ carried_long (entries_in s.share_hashes) (sibling_number m num i) (get_or sound.sections.share_hashes.siblings i []) entries_long (sound.sections.share_hashes.carried i below);
      among = their_way;
    }

    own_path : IsPathAmong inputs m num (get_or leaves num []) (siblings_of leaves num)
    own_path = record {
      hash_length = leaves_of_shares g ciphertext num [] inside;
      sibling_lengths = λ i below.
          siblings_are_hashes leaves num (leaves_of_shares g ciphertext) inside i []
          (omega (arith, below, height_is, length-map-range_with_len (λ j. get_or (tree_nodes leaves) (sibling_number (height (length leaves)) num j) []) 0 (height (length leaves))));
      among =
          subst (λ (h : ℕ). AreAmong inputs (path_inputs h num (get_or leaves num []) (siblings_of leaves num))) height_is
          (λ x c. share_tree_among g ciphertext (Contains inputs) mine x (own_paths_are_within leaves num inside x c));
    }

    one_root : path_root m num (root_in s.block_tree) given ≡ path_root m num (get_or leaves num []) (siblings_of leaves num)
    one_root =
        lead.share_hashes.2 ∙ sym (siblings_of-lead leaves num inside).2
        ∙ ap (λ (h : ℕ). path_root h num (get_or leaves num []) (siblings_of leaves num)) height_is

    leaf_same : root_in s.block_tree ≡ get_or leaves num []
    leaf_same = paths_agree inputs no_clash m num (root_in s.block_tree) (get_or leaves num []) given (siblings_of leaves num) their_path own_path one_root

    -- the block tree and the blocks
    hashes_same : block_hashes (blocks_in u s) ≡ block_hashes (own_blocks g ciphertext num)
    hashes_same =
        trees_agree inputs no_clash (block_hashes (blocks_in u s)) (block_hashes (own_blocks g ciphertext num)) sound.sections.blocks.hashes (block_leaves g ciphertext num)
        (length-block_hashes (segment_count g) (block_size g) s.blocks ∙ sym (length-block_leaves g ciphertext num))
        (subst (λ (l : List (List ℕ)). AreAmong inputs (tree_inputs l)) lead.blocks their_block_tree)
        (block_tree_among g ciphertext (Contains inputs) mine num low)
        (root_is ∙ leaf_same ∙ leaf_is g ciphertext num low)

    block_tree_is : s.block_tree ≡ joined (tree_nodes (block_hashes (own_blocks g ciphertext num)))
    block_tree_is = sound.sections.blocks.nodes ∙ ap (λ (l : List (List ℕ)). joined (tree_nodes l)) hashes_same

    blocks_are : s.blocks ≡ joined (own_blocks g ciphertext num)
    blocks_are =
        let same = same_data inputs no_clash Block (blocks_in u s) (own_blocks g ciphertext num) their_blocks (blocks_among g ciphertext (Contains inputs) mine num low) hashes_same in
        sym (joined_pieces (segment_count g) (block_size g) s.blocks (omega (arith, sound.reads.layout.lengths.blocks, blocks_fit g shape)))
        ∙ ap joined same

    -- the share hashes
    own_node : get_or (tree_nodes leaves) (node_number m num) [] ≡ get_or leaves num []
    own_node =
        ap (λ (h : ℕ). get_or (tree_nodes leaves) (node_number h num) []) (sym height_is)
        ∙ tree_nodes_node leaves (height (length leaves)) num (omega arith) (subst (λ (h : ℕ). num < 2 ^ h) (sym height_is) within)
        ∙ node-leaf (height (length leaves)) (padded leaves) num
        ∙ padded_to-leaf (2 ^ height (length leaves)) leaves num inside

    sibling_node : (i : ℕ) → i < m → get_or (siblings_of leaves num) i [] ≡ get_or (tree_nodes leaves) (sibling_number m num i) []
    sibling_node i below =
        get_or-map-range_with_len (λ j. get_or (tree_nodes leaves) (sibling_number (height (length leaves)) num j) []) 0 (height (length leaves)) i i [] (omega (arith, below, height_is)) (zero-add i)
        ∙ ap (λ (h : ℕ). get_or (tree_nodes leaves) (sibling_number h num i) []) height_is

    found : (k : ℕ) → k < length (needed_numbers m num)
        → carried_hash (entries_in s.share_hashes) (get_or (needed_numbers m num) k 0) ≡ Some (get_or (tree_nodes leaves) (get_or (needed_numbers m num) k 0) [])
    found k below =
        elim (on_way m num k within below) [
          | own is ↦
              ap (carried_hash (entries_in s.share_hashes)) is ∙ sound.sections.share_hashes.own
              ∙ ap (λ (h : List ℕ). Some h) (leaf_same ∙ sym own_node) ∙ ap (λ (n : ℕ). Some (get_or (tree_nodes leaves) n [])) (sym is)
          | beside i near is ↦
              ap (carried_hash (entries_in s.share_hashes)) is ∙ sound.sections.share_hashes.carried i near
              ∙ ap (λ (h : List ℕ). Some h)
              (sym (given_is i near)
              ∙ siblings_agree inputs no_clash m num (root_in s.block_tree) (get_or leaves num []) given (siblings_of leaves num) their_path own_path one_root i near
              ∙ sibling_node i near)
              ∙ ap (λ (n : ℕ). Some (get_or (tree_nodes leaves) n [])) (sym is)
        ]

    share_hashes_are : s.share_hashes ≡ share_hashes leaves num
    share_hashes_are =
        section_is (λ n. get_or (tree_nodes leaves) n []) (needed_numbers m num) s.share_hashes (needed_are_numbers m num within few)
        (sound.reads.layout.lengths.share_hashes ∙ ap (λ (n : ℕ). n * 34) (sym (length-needed_numbers m num)))
        sound.reads.layout.numbers found
        ∙ ap (λ (h : ℕ). flat_map (λ n. to_be_bytes w16 n ++ get_or (tree_nodes leaves) n []) (needed_numbers h num)) (sym height_is)

    unused_is : s.unused ≡ replicate (tree_size g) 0
    unused_is = sound.sections.unused ∙ ap (λ (n : ℕ). replicate n 0) sound.reads.layout.lengths.unused

    pub sections_are : s.extension_block ≡ ueb_text u → s ≡ sections_of g segments (ueb_text u) num
    sections_are block i = record {
      blocks = blocks_are i;
      unused = unused_is i;
      ciphertext_tree = ciphertext_tree_is i;
      block_tree = block_tree_is i;
      share_hashes = share_hashes_are i;
      extension_block = block i;
    }

pub shares_are_bound : CiphertextSharesAreBound
unfolding ciphertext_encoding
shares_are_bound inputs no_clash g key ciphertext shape whole mine num share u s among =
    let segments = segments_of g ciphertext in
    let v : Contents = extension_block_contents g ciphertext segments in
    let cap = verify_cap_of (ciphertext_encoding g key ciphertext).cap in
    let low : 0 < g.total = omega (arith, shape.file.some_needed, shape.file.enough) in
    let own_ueb : IsUebFor cap (ueb_text v) v = (ciphertext_shares_pass g key ciphertext shape whole 0 low).reads.ueb in
    let ueb = among.sound.reads.ueb in
    let block : s.extension_block ≡ ueb_text v =
    data_agrees inputs no_clash ExtensionBlock s.extension_block (ueb_text v) (among.among (tagged_input ExtensionBlock s.extension_block) (0, omega arith, refl)) (block_among g ciphertext (Contains inputs) mine) (ueb.hash ∙ sym own_ueb.hash) in
    let same : u ≡ v = one_ueb cap (ueb_text v) u v (subst (λ (x : List ℕ). IsUebFor cap x u) block ueb) own_ueb in
    let sound : IsSound cap num share v s = subst (λ (w : Contents). IsSound cap num share w s) same among.sound in
    let theirs : AreAmong inputs (share_inputs v num s) = subst (λ (w : Contents). AreAmong inputs (share_inputs w num s)) same among.among in
    let are : s ≡ sections_of g segments (ueb_text v) num = sections_are inputs no_clash g key ciphertext shape whole mine num share s cap sound theirs block in
    let here : get_or (map (share_of g segments (ueb_text v)) (range_with_len 0 g.total)) num [] ≡ share_bytes g (sections_of g segments (ueb_text v) num) =
    get_or-map-range_with_len (share_of g segments (ueb_text v)) 0 g.total num num [] sound.reads.layout.number (zero-add num) in
    record {
      contents = same;
      sections = are;
      bytes = sound.reads.layout.text ∙ ap (share_bytes g) are ∙ sym here;
    }

pub file_shares_are_bound : FileSharesAreBound
unfolding encoding_of
file_shares_are_bound inputs no_clash file secret p shape mine num share u s among =
    let g = geometry_of (length file) p.needed p.total p.max_segment in
    let key = convergent_key_of p.needed p.total g.segment_size secret file in
    (shares_are_bound inputs no_clash g key (xored key file) shape (length-xored_from key 0 file)
    (λ x c. mine x (ciphertext_among file secret p x c)) num share u s among).bytes

pub own_shares_are_within : OwnSharesAreWithin
unfolding encoding_of
own_shares_are_within file secret p shape num low =
    let g = geometry_of (length file) p.needed p.total p.max_segment in
    let key = convergent_key_of p.needed p.total g.segment_size secret file in
    let ciphertext : List ℕ = xored key file in
    let whole : length ciphertext ≡ g.size = length-xored_from key 0 file in (
      said g ciphertext,
      sections g ciphertext shape whole num low,
      record {
        sound = ciphertext_shares_pass g key ciphertext shape whole num low;
        among = λ x c. ciphertext_among file secret p x (own_share_is_within g ciphertext shape whole num low x c);
      },
    )
