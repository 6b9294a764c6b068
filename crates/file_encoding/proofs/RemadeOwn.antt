-- Without a clash shares of a file's encoding are made anew as they were.
use Rattle.std.proofs.Common.{◌≡◌, ℕ, zero, suc, ◌*◌, ◌<◌, ◌≤◌, List, [], ◌∷◌, length, get_or, map, take, Contains, refl, ap, sym, subst, ◌∙◌, arith, zero-add}
use Rattle.std.specs.List.{range_with_len}
use Rattle.std.proofs.lemmas.List.{ext_get_or, get_or-map, get_or_default, length-map, take_at}
use Rattle.std.proofs.lemmas.List.Elements.{Contains-append_left, Contains-append_right}
use Rattle.std.proofs.lemmas.List.FromFn.{get_or-map-range_with_len, length-map-range_with_len}
use Rattle.aes_ctr.specs.CounterMode.{xored}
use Rattle.aes_ctr.proofs.StreamLemmas.{length-xored_from}
use Rattle.tagged_hash.proofs.HashLemmas.{length-double_sha256}
use Rattle.tagged_hash.specs.Clash.{HasNoClash}
use Rattle.tagged_hash.specs.ConvergentKey.{convergent_key_of, key_input}
use Rattle.tagged_hash.specs.TaggedHash.{tagged_hash, tagged_input}
use Rattle.tagged_hash.specs.declared.tag.Tag.TheVariants.{CiphertextSegment, StorageIndex, WholeShare}
use Rattle.merkle.proofs.InputLemmas.{member_there}
use Rattle.merkle.specs.Inputs.{AreAmong}
use Rattle.merkle.specs.Tree.{leaves_among, tree_nodes, tree_root}
use Rattle.zfec_code.specs.Rows.{AreDistinct}
use Rattle.zfec_code.specs.Shares.{AreSharesOf, IsShareOf}
use Rattle.zfec_code.proofs.ShareBlocks.{primaries_unique}
use Rattle.cap_text.specs.Cap.{VerifyCapValue, verify_cap_of}
use Rattle.ueb.specs.Block.{ueb_text}
use Rattle.ueb.specs.Shape.{Contents, IsShape}
use Rattle.share_layout.specs.Geometry.{Geometry, geometry_of, segment_count}
use Rattle.share_layout.specs.Pieces.{block_at, pieces, segment_at, segment_length, segments_of}
use Rattle.share_layout.specs.Share.{Sections, share_bytes}
use Rattle.share_verify.specs.CapBlock.{geometry_by}
use Rattle.share_verify.specs.Inputs.{share_inputs}
use Rattle.share_verify.specs.Pieces.{block_hashes, joined}
use Rattle.share_verify.specs.TreeSection.{HoldsTree}
use Rattle.share_verify.proofs.SectionLemmas.{hashes_in_tree, leaves_among_tree}
use Rattle.proved_parts.proofs.Files.{length-pieces, mapped_are_hashes}
use Rattle.proved_parts.specs.FileOf.{segment_hashes}
use Rattle.file_encoding.specs.Blocks.{padded_block, padded_blocks}
use Rattle.file_encoding.specs.Encoding.{block_of, blocks_of, ciphertext_encoding, encoding_of, extension_block_contents, padded_segment, sections_of, share_hashes, share_leaves, share_of}
use Rattle.file_encoding.specs.Inputs.{ciphertext_inputs}
use Rattle.file_encoding.specs.Reading.{Agree, TakenShare, Takes, blocks_in, disagree, numbers_of, wrong_segment}
use Rattle.file_encoding.proofs.Bytes.{AreBytes, bytes-drop, bytes-take, bytes-xored}
use Rattle.file_encoding.proofs.KeyBytes.{bytes-key}
use Rattle.file_encoding.proofs.LowestShares.{rising_distinct}
use Rattle.file_encoding.proofs.OwnFile.{needed_is}
use Rattle.file_encoding.proofs.OwnSegments.{block_is, block_is_share, decoded_is, length-segment, piece_at}
use Rattle.file_encoding.specs.Binding.{IsOwnShare}
use Rattle.file_encoding.proofs.Binding.{shares_are_bound}
use Rattle.file_encoding.specs.RemadeLaws.{AreTakenAmong, GoodSharesGiveOwn, taken_inputs}
use Rattle.file_encoding.specs.Padded.{padded_leaves, padded_sections, padded_shares, plain_segments}
use Rattle.file_encoding.specs.Regenerated.{AreRegenerated, CannotRegenerate, inconsistent, other_root}

-- what one of the shares hashes is among what all hash
one_among : (taken : List TakenShare) (k : ℕ) (d : TakenShare) (input : List ℕ) → k < length taken
    → Contains (share_inputs (get_or taken k d).contents (get_or taken k d).number (get_or taken k d).sections) input → Contains (taken_inputs taken) input
one_among [] k d input below c = absurd (omega (arith, below))
one_among (t ∷ ts) zero d input below c = Contains-append_left (share_inputs t.contents t.number t.sections) (taken_inputs ts) input c
one_among (t ∷ ts) (suc k) d input below c =
    Contains-append_right (share_inputs t.contents t.number t.sections) (taken_inputs ts) input (one_among ts k d input (omega (arith, below)) c)

-- a section holds the tree over one list of so many leaves
one_tree : (n : ℕ) (section : List ℕ) (a b : List (List ℕ)) → length a ≡ n → length b ≡ n → HoldsTree section a → HoldsTree section b → a ≡ b
one_tree n section a b first second held also =
    sym (leaves_among_tree n a first)
    ∙ ap (λ (l : List (List ℕ)). leaves_among l n) (sym (hashes_in_tree section a held) ∙ hashes_in_tree section b also)
    ∙ leaves_among_tree n b second

module _ (inputs : List (List ℕ)) (no_clash : HasNoClash inputs) (g : Geometry) (key ciphertext : List ℕ)
    (shape : IsShape g.needed g.total g.size g.segment_size) (whole : length ciphertext ≡ g.size) (bytes : AreBytes ciphertext)
    (mine : AreAmong inputs (ciphertext_inputs g ciphertext)) (numbers : List ℕ) (strings : List (List ℕ))
    (among : AreTakenAmong inputs (verify_cap_of (ciphertext_encoding g key ciphertext).cap) numbers strings) where
  abbrev segments : List (List ℕ)
  segments = segments_of g ciphertext

  abbrev said : Contents
  said = extension_block_contents g ciphertext segments

  abbrev block : List ℕ
  block = ueb_text said

  abbrev cap : VerifyCapValue
  cap = verify_cap_of (ciphertext_encoding g key ciphertext).cap

  abbrev no_share : TakenShare
  no_share = record { position = 0; number = 0; contents = said; sections = sections_of g segments block 0 }

  few : g.needed ≤ 256
  few = omega (arith, shape.file.enough, shape.file.shares)

  own_bytes : (number : ℕ) → AreBytes (segment_at g number ciphertext)
  own_bytes number = bytes-take g.segment_size _ (bytes-drop (number * g.segment_size) ciphertext bytes)

  module _ (taken : List TakenShare) (takes : Takes cap numbers strings taken) where
    enough : length taken ≡ g.needed
    enough = takes.enough ∙ needed_is g key ciphertext

    some : 0 < length taken
    some = omega (arith, enough, shape.file.some_needed)

    -- each share that is taken is the encoding's
    own : (k : ℕ) → k < length taken
        → IsOwnShare g key ciphertext (get_or taken k no_share).number (get_or strings (get_or taken k no_share).position []) (get_or taken k no_share).contents (get_or taken k no_share).sections
    own k below =
        let t = get_or taken k no_share in
        shares_are_bound inputs no_clash g key ciphertext shape whole mine t.number (get_or strings t.position []) t.contents t.sections
        record {
          sound = (takes.lowest.each k no_share below).sound;
          among = λ x c. among taken takes x (one_among taken k no_share x below c);
        }

    low : (m : ℕ) → m < g.needed → get_or (numbers_of taken) m 0 < g.total
    low m below =
        let inside : m < length taken = omega (arith, below, enough) in
        let same : get_or (numbers_of taken) m 0 ≡ (get_or taken m no_share).number = get_or-map (λ (t : TakenShare). t.number) taken m no_share 0 inside in
        let is : (get_or taken m no_share).contents ≡ said = (own m inside).contents in
        let number : (get_or taken m no_share).number < (get_or taken m no_share).contents.total_shares = (takes.lowest.each m no_share inside).sound.reads.layout.number in
        let total : (get_or taken m no_share).contents.total_shares ≡ g.total = ap (λ (c : Contents). c.total_shares) is in
        omega (arith, same, number, total)

    distinct : AreDistinct (numbers_of taken)
    distinct = rising_distinct (numbers_of taken) takes.lowest.rising

    blocks_are : (number m : ℕ) → m < g.needed
        → get_or (map (block_at g number) (blocks_in taken)) m [] ≡ block_at g number (joined (blocks_of g.needed (get_or (numbers_of taken) m 0) segments))
    blocks_are number m below =
        let inside : m < length taken = omega (arith, below, enough) in
        let all : length (blocks_in taken) ≡ length taken = length-map taken (λ (t : TakenShare). t.sections.blocks) in
        get_or-map (block_at g number) (blocks_in taken) m [] [] (omega (arith, inside, all))
        ∙ ap (block_at g number)
        (get_or-map (λ (t : TakenShare). t.sections.blocks) taken m no_share [] inside
        ∙ ap (λ (s : Sections). s.blocks) (own m inside).sections
        ∙ ap (λ i. joined (blocks_of g.needed i segments)) (sym (get_or-map (λ (t : TakenShare). t.number) taken m no_share 0 inside)))

    count : length (numbers_of taken) ≡ g.needed
    count = length-map taken (λ (t : TakenShare). t.number) ∙ enough

    -- what the blocks of a segment are shares of is the segment, padded by zeros
    padded_is : (number : ℕ) (padded : List ℕ) → number < segment_count g → AreSharesOf g.needed padded (numbers_of taken) (map (block_at g number) (blocks_in taken))
        → padded ≡ padded_segment g.needed (segment_at g number ciphertext)
    padded_is number padded there decodes =
        let own_segment : List ℕ = segment_at g number ciphertext in
        let blocks : List (List ℕ) = map (block_at g number) (blocks_in taken) in
        let shares : AreSharesOf g.needed (padded_segment g.needed own_segment) (numbers_of taken) blocks =
        (λ m below.
        let i : ℕ = get_or (numbers_of taken) m 0 in
        subst (λ b. IsShareOf g.needed (padded_segment g.needed own_segment) i b)
        (sym (blocks_are number m below ∙ block_is g ciphertext shape whole bytes i number (low m below) there))
        (block_is_share g.needed i own_segment shape.file.some_needed few (own_bytes number))) in
        primaries_unique g.needed padded (padded_segment g.needed own_segment) (numbers_of taken) blocks shape.file.some_needed few count
        (λ m d h. let below = low m (omega (arith, h, count)) in omega (arith, below, get_or_default (numbers_of taken) m d 0 h, shape.file.shares)) distinct decodes shares

    -- ---- what they have in common

    module _ (extension_block : List ℕ) (u : Contents) (agree : Agree taken extension_block u) where
      contents_are : u ≡ said
      contents_are = sym (agree 0 no_share some).1 ∙ (own 0 some).contents

      block_is_copied : extension_block ≡ block
      block_is_copied = sym (agree 0 no_share some).0 ∙ ap (λ (s : Sections). s.extension_block) (own 0 some).sections

    module _ (text : List ℕ) (decoded : (number : ℕ) → number < segment_count g → AreSharesOf g.needed (segment_at g number text) (numbers_of taken) (map (block_at g number) (blocks_in taken))) where
      segment_is : (number : ℕ) → number < segment_count g → segment_at g number text ≡ padded_segment g.needed (segment_at g number ciphertext)
      segment_is number there = padded_is number (segment_at g number text) there (decoded number there)

      blocks_same : (i : ℕ) → padded_blocks g i text ≡ blocks_of g.needed i segments
      blocks_same i =
          let n : ℕ = segment_count g in
          let ours : List (List ℕ) = pieces n g.segment_size text in
          let long : length ours ≡ n = length-pieces n g.segment_size text in
          let also : length segments ≡ n = length-pieces n g.segment_size ciphertext in
          ext_get_or [] (padded_blocks g i text) (blocks_of g.needed i segments)
          (length-map ours (padded_block g.needed i) ∙ long ∙ sym (length-map segments (block_of g.needed i) ∙ also))
          (λ j below.
          let there : j < n = omega (arith, below, length-map ours (padded_block g.needed i), long) in
          get_or-map (padded_block g.needed i) ours j [] [] (omega (arith, there, long))
          ∙ ap (padded_block g.needed i) (piece_at n g.segment_size text j there ∙ segment_is j there)
          ∙ ap (block_of g.needed i) (sym (piece_at n g.segment_size ciphertext j there))
          ∙ sym (get_or-map (block_of g.needed i) segments j [] [] (omega (arith, there, also))))

      leaves_same : padded_leaves g text ≡ share_leaves g segments
      leaves_same = λ p. map (λ i. tree_root (block_hashes (blocks_same i p))) (range_with_len 0 g.total)

      plain_same : plain_segments g text ≡ segments
      plain_same =
          let n : ℕ = segment_count g in
          let plain : ℕ → List ℕ = λ number. take (segment_length g number) (segment_at g number text) in
          let long : length (plain_segments g text) ≡ n = length-map-range_with_len plain 0 n in
          ext_get_or [] (plain_segments g text) segments (long ∙ sym (length-pieces n g.segment_size ciphertext))
          (λ j below.
          let there : j < n = omega (arith, below, long) in
          let segment : List ℕ = segment_at g j ciphertext in
          get_or-map-range_with_len plain 0 n j j [] there (zero-add j)
          ∙ ap (take (segment_length g j)) (segment_is j there)
          ∙ take_at segment _ (segment_length g j) (length-segment g ciphertext shape whole bytes j)
          ∙ sym (piece_at n g.segment_size ciphertext j there))

      sections_same : (i : ℕ) → padded_sections g text block i ≡ sections_of g segments block i
      sections_same i = λ p. record {
        blocks = joined (blocks_same i p);
        unused = (sections_of g segments block i).unused;
        ciphertext_tree = joined (tree_nodes (segment_hashes (plain_same p)));
        block_tree = joined (tree_nodes (block_hashes (blocks_same i p)));
        share_hashes = share_hashes (leaves_same p) i;
        extension_block = block;
      }

      shares_same : padded_shares g text block ≡ map (share_of g segments block) (range_with_len 0 g.total)
      shares_same = λ p. map (λ i. share_bytes g (sections_same i p)) (range_with_len 0 g.total)

  -- so what is made anew is the encoding's
  pub gives : (shares : List (List ℕ)) → AreRegenerated cap numbers strings shares → shares ≡ (ciphertext_encoding g key ciphertext).shares
  unfolding ciphertext_encoding
  gives shares r =
      let same : r.u ≡ said = contents_are r.taken r.takes r.extension_block r.u r.give.agree in
      let copied : r.extension_block ≡ block = block_is_copied r.taken r.takes r.extension_block r.u r.give.agree in
      let decoded : (number : ℕ) → number < segment_count g → AreSharesOf g.needed (segment_at g number r.text) (numbers_of r.taken) (map (block_at g number) (blocks_in r.taken)) =
      subst (λ (v : Contents). (number : ℕ) → number < segment_count (geometry_by v) → AreSharesOf v.needed_shares (segment_at (geometry_by v) number r.text) (numbers_of r.taken) (map (block_at (geometry_by v) number) (blocks_in r.taken))) same r.give.decoded.segments in
      r.are ∙ (λ p. padded_shares (geometry_by (same p)) r.text (copied p)) ∙ shares_same r.taken r.takes r.text decoded

  -- and nothing keeps it from being made
  pub can : ¬ CannotRegenerate cap numbers strings
  can (inconsistent (disagree taken takes d)) =
      let blocks_of_shares : (k : ℕ) → k < length taken → (get_or taken k no_share).sections.extension_block ≡ block =
      λ k below. ap (λ (s : Sections). s.extension_block) (own taken takes k below).sections in
      let first : get_or taken 0 no_share ≡ d.lowest = ap (λ (l : List TakenShare). get_or l 0 no_share) d.is in
      let at : get_or taken d.position d.lowest ≡ get_or taken d.position no_share = same_default taken d.position d.lowest no_share d.there in
      d.differs (ap (λ (t : TakenShare). t.sections.extension_block) at ∙ blocks_of_shares d.position d.there
      ∙ sym (blocks_of_shares 0 (some taken takes)) ∙ ap (λ (t : TakenShare). t.sections.extension_block) first) where
        same_default : (ts : List TakenShare) (k : ℕ) (a b : TakenShare) → k < length ts → get_or ts k a ≡ get_or ts k b
        same_default [] k a b below = absurd (omega (arith, below))
        same_default (t ∷ ts) zero a b below = refl
        same_default (t ∷ ts) (suc k) a b below = same_default ts k a b (omega (arith, below))
  can (inconsistent (wrong_segment taken extension_block u leaves takes agree are_leaves w)) =
      let same : u ≡ said = contents_are taken takes extension_block u agree in
      let there : w.number < segment_count g = subst (λ (v : Contents). w.number < segment_count (geometry_by v)) same w.there in
      let decodes = w.decodes in
      let shares : AreSharesOf g.needed decodes.padded (numbers_of taken) (map (block_at g w.number) (blocks_in taken)) =
      subst (λ (v : Contents). AreSharesOf v.needed_shares decodes.padded (numbers_of taken) (map (block_at (geometry_by v) w.number) (blocks_in taken))) same decodes.shares in
      let cut : w.segment ≡ take (segment_length g w.number) decodes.padded = subst (λ (v : Contents). w.segment ≡ take (segment_length (geometry_by v) w.number) decodes.padded) same decodes.cut in
      let segment : w.segment ≡ segment_at g w.number ciphertext =
      decoded_is g ciphertext shape whole bytes w.number (numbers_of taken) (map (block_at g w.number) (blocks_in taken)) decodes.padded w.segment there
      (count taken takes) (distinct taken takes) (low taken takes) (blocks_are taken takes w.number) shares cut in
      let first : get_or taken 0 no_share ≡ are_leaves.lowest = ap (λ (l : List TakenShare). get_or l 0 no_share) are_leaves.is in
      let own_first = own taken takes 0 (some taken takes) in
      let tree : are_leaves.lowest.sections.ciphertext_tree ≡ joined (tree_nodes (segment_hashes segments)) =
      ap (λ (t : TakenShare). t.sections.ciphertext_tree) (sym first) ∙ ap (λ (s : Sections). s.ciphertext_tree) own_first.sections in
      let says : are_leaves.lowest.contents ≡ said = ap (λ (t : TakenShare). t.contents) (sym first) ∙ own_first.contents in
      let long : length leaves ≡ segment_count g = are_leaves.count ∙ ap (λ (v : Contents). segment_count (geometry_by v)) says in
      let all : length segments ≡ segment_count g = length-pieces (segment_count g) g.segment_size ciphertext in
      let leaves_are : leaves ≡ segment_hashes segments =
      one_tree (segment_count g) are_leaves.lowest.sections.ciphertext_tree leaves (segment_hashes segments) long (length-map segments (tagged_hash CiphertextSegment) ∙ all) are_leaves.holds
      record { hashes = mapped_are_hashes (tagged_hash CiphertextSegment) (λ x. length-double_sha256 _) segments; nodes = tree } in
      w.wrong
      (ap (tagged_hash CiphertextSegment) (segment ∙ sym (piece_at (segment_count g) g.segment_size ciphertext w.number there))
      ∙ sym (get_or-map (tagged_hash CiphertextSegment) segments w.number [] [] (omega (arith, there, all)))
      ∙ ap (λ (l : List (List ℕ)). get_or l w.number []) (sym leaves_are))
  can (other_root taken extension_block u text takes give wrong) =
      let same : u ≡ said = contents_are taken takes extension_block u give.agree in
      let decoded : (number : ℕ) → number < segment_count g → AreSharesOf g.needed (segment_at g number text) (numbers_of taken) (map (block_at g number) (blocks_in taken)) =
      subst (λ (v : Contents). (number : ℕ) → number < segment_count (geometry_by v) → AreSharesOf v.needed_shares (segment_at (geometry_by v) number text) (numbers_of taken) (map (block_at (geometry_by v) number) (blocks_in taken))) same give.decoded.segments in
      wrong
      (ap (λ (v : Contents). tree_root (padded_leaves (geometry_by v) text)) same
      ∙ ap tree_root (leaves_same taken takes text decoded)
      ∙ ap (λ (v : Contents). v.share_root_hash) (sym same))

pub good_shares_give_own : GoodSharesGiveOwn
unfolding encoding_of
good_shares_give_own inputs no_clash file secret p shape bytes mine numbers strings among =
    let g = geometry_of (length file) p.needed p.total p.max_segment in
    let key = convergent_key_of p.needed p.total g.segment_size secret file in
    let ciphertext = xored key file in
    let encrypted : AreBytes ciphertext = bytes-xored key (bytes-key p.needed p.total g.segment_size secret file) file bytes in
    let whole : length ciphertext ≡ length file = length-xored_from key 0 file in
    let within : AreAmong inputs (ciphertext_inputs g ciphertext) =
    λ x c. mine x (Contains-append_left (key_input p.needed p.total g.segment_size secret file ∷ tagged_input StorageIndex key ∷ ciphertext_inputs g ciphertext)
    (map (tagged_input WholeShare) (encoding_of file secret p).shares) x
    (member_there (key_input p.needed p.total g.segment_size secret file) x (tagged_input StorageIndex key ∷ ciphertext_inputs g ciphertext)
    (member_there (tagged_input StorageIndex key) x (ciphertext_inputs g ciphertext) c))) in
    record {
      only = gives inputs no_clash g key ciphertext shape whole encrypted within numbers strings among;
      can = can inputs no_clash g key ciphertext shape whole encrypted within numbers strings among;
    }
