-- What a reader makes of shares of one encoding.
use Rattle.std.proofs.Common.{◌≡◌, ℕ, ◌<◌, List, [], ◌∷◌, length, get_or, map, All, refl, ap, sym, subst, ◌∙◌, arith}
use Rattle.std.proofs.lemmas.List.{get_or-map, length-map}
use Rattle.tagged_hash.proofs.HashLemmas.{length-double_sha256}
use Rattle.tagged_hash.specs.ConvergentKey.{convergent_key_of}
use Rattle.tagged_hash.specs.TaggedHash.{tagged_hash}
use Rattle.tagged_hash.specs.declared.tag.Tag.TheVariants.{CiphertextSegment}
use Rattle.merkle.specs.Tree.{leaves_among, tree_nodes}
use Rattle.aes_ctr.specs.CounterMode.{xored}
use Rattle.aes_ctr.proofs.StreamLemmas.{length-xored_from}
use Rattle.ueb.specs.Shape.{Contents, IsShape}
use Rattle.share_layout.specs.Geometry.{Geometry, geometry_of, segment_count}
use Rattle.share_layout.specs.Share.{Sections}
use Rattle.share_verify.specs.Pieces.{joined}
use Rattle.share_verify.specs.CapBlock.{geometry_by}
use Rattle.share_verify.specs.TreeSection.{HoldsTree}
use Rattle.share_verify.proofs.SectionLemmas.{hashes_in_tree, leaves_among_tree}
use Rattle.file_encoding.specs.Encoding.{blocks_of, ciphertext_encoding, encoding_of}
use Rattle.proved_parts.specs.FileOf.{segment_hashes}
use Rattle.share_layout.specs.Pieces.{segments_of, block_at, segment_at}
use Rattle.file_encoding.specs.OwnFile.{AreOwnShares, OwnSharesGiveTheFile}
use Rattle.file_encoding.specs.Reading.{Agree, AreInconsistent, Decodes, IsDecoded, IsReadFrom, IsTaken, TakenShare, blocks_in, numbers_of, disagree, wrong_segment}
use Rattle.file_encoding.proofs.Bytes.{AreBytes, bytes-xored, xored-xored}
use Rattle.file_encoding.proofs.KeyBytes.{bytes-key}
use Rattle.file_encoding.proofs.OwnFile.{contents, needed_is, sections, suffices, taken_is, verify_cap}
use Rattle.zfec_code.specs.Rows.{AreDistinct}
use Rattle.file_encoding.proofs.LowestShares.{rising_distinct}
use Rattle.file_encoding.proofs.OwnSegments.{decoded_is, piece_at, same_text}
use Rattle.proved_parts.proofs.Files.{mapped_are_hashes, length-pieces}

key_is : (g : Geometry) (key ciphertext : List ℕ) → (ciphertext_encoding g key ciphertext).cap.key ≡ key
unfolding ciphertext_encoding
key_is g key ciphertext = refl

-- a section holds the tree over one list of so many leaves
one_tree : (n : ℕ) (section : List ℕ) (a b : List (List ℕ)) → length a ≡ n → length b ≡ n → HoldsTree section a → HoldsTree section b → a ≡ b
one_tree n section a b first second held also =
    sym (leaves_among_tree n a first)
    ∙ ap (λ (l : List (List ℕ)). leaves_among l n) (sym (hashes_in_tree section a held) ∙ hashes_in_tree section b also)
    ∙ leaves_among_tree n b second

module _ (g : Geometry) (key ciphertext : List ℕ) (shape : IsShape g.needed g.total g.size g.segment_size) (whole : length ciphertext ≡ g.size)
    (bytes : AreBytes ciphertext)
    (numbers : List ℕ) (strings : List (List ℕ)) (own : AreOwnShares (ciphertext_encoding g key ciphertext) numbers strings) where
  abbrev segments : List (List ℕ)
  segments = segments_of g ciphertext

  abbrev said : Contents
  said = contents g key ciphertext shape whole numbers strings own

  abbrev sections_at : ℕ → Sections
  sections_at i = sections g key ciphertext shape whole numbers strings own i

  abbrev IsTakenHere : TakenShare → Type 0
  IsTakenHere t = IsTaken (verify_cap g key ciphertext shape whole numbers strings own) numbers strings t

  abbrev no_share : TakenShare
  no_share = record { position = 0; number = 0; contents = said; sections = sections_at 0 }

  sections_of_taken : (t : TakenShare) → IsTakenHere t → sections_at t.number ≡ t.sections
  sections_of_taken t taken = (taken_is g key ciphertext shape whole numbers strings own t taken).sections_are

  -- the leaves of the ciphertext tree in a share
  own_leaves : (t : TakenShare) (leaves : List (List ℕ)) → IsTakenHere t → length leaves ≡ segment_count g → HoldsTree t.sections.ciphertext_tree leaves
      → leaves ≡ segment_hashes segments
  own_leaves t leaves taken count holds =
      let tree : joined (tree_nodes (segment_hashes segments)) ≡ t.sections.ciphertext_tree =
      ap (λ (s : Sections). s.ciphertext_tree) (sections_of_taken t taken) in
      let all : length (segment_hashes segments) ≡ segment_count g =
      length-map segments (tagged_hash CiphertextSegment) ∙ length-pieces (segment_count g) g.segment_size ciphertext in
      one_tree (segment_count g) t.sections.ciphertext_tree leaves (segment_hashes segments) count all holds
      record { hashes = mapped_are_hashes (tagged_hash CiphertextSegment) (λ x. length-double_sha256 _) segments; nodes = sym tree }

  module _ (taken : List TakenShare) (each : All IsTakenHere taken) (enough : length taken ≡ g.needed) where
    numbered : (m : ℕ) → m < g.needed → get_or (numbers_of taken) m 0 ≡ (get_or taken m no_share).number
    numbered m below = get_or-map (λ (t : TakenShare). t.number) taken m no_share 0 (omega (arith, below, enough))

    low : (m : ℕ) → m < g.needed → get_or (numbers_of taken) m 0 < g.total
    low m below =
        subst (λ n. n < g.total) (sym (numbered m below))
        (taken_is g key ciphertext shape whole numbers strings own (get_or taken m no_share) (each m no_share (omega (arith, below, enough)))).number

    blocks_are : (number m : ℕ) → m < g.needed
        → get_or (map (block_at g number) (blocks_in taken)) m [] ≡ block_at g number (joined (blocks_of g.needed (get_or (numbers_of taken) m 0) segments))
    blocks_are number m below =
        let inside : m < length taken = omega (arith, below, enough) in
        let t : TakenShare = get_or taken m no_share in
        let all : length (blocks_in taken) ≡ length taken = length-map taken (λ (t : TakenShare). t.sections.blocks) in
        get_or-map (block_at g number) (blocks_in taken) m [] [] (omega (arith, inside, all))
        ∙ ap (block_at g number)
        (get_or-map (λ (t : TakenShare). t.sections.blocks) taken m no_share [] inside
        ∙ ap (λ (s : Sections). s.blocks) (sym (sections_of_taken t (each m no_share inside)))
        ∙ ap (λ i. joined (blocks_of g.needed i segments)) (sym (numbered m below)))

    -- a segment that the shares decode to is the one of the ciphertext
    own_segment : AreDistinct (numbers_of taken) → (number : ℕ) (segment : List ℕ) → number < segment_count g → Decodes g (numbers_of taken) (blocks_in taken) number segment
        → segment ≡ segment_at g number ciphertext
    own_segment distinct number segment there decodes =
        decoded_is g ciphertext shape whole bytes number (numbers_of taken) (map (block_at g number) (blocks_in taken)) decodes.padded segment there
        (length-map taken (λ (t : TakenShare). t.number) ∙ enough) distinct low (blocks_are number) decodes.shares decodes.cut

    -- they say what the encoding says
    agreed : (extension_block : List ℕ) (u : Contents) → Agree taken extension_block u → said ≡ u
    agreed extension_block u agree =
        let some : 0 < length taken = omega (arith, enough, shape.file.some_needed) in
        (taken_is g key ciphertext shape whole numbers strings own (get_or taken 0 no_share) (each 0 no_share some)).contents_are ∙ (agree 0 no_share some).1

    -- the first of them
    first_taken : (lowest : TakenShare) (rest : List TakenShare) → taken ≡ lowest ∷ rest → IsTakenHere lowest
    first_taken lowest rest is = subst (All IsTakenHere) is each 0 lowest (omega arith)

  -- so a file that is read is the ciphertext, decrypted
  pub gives : (read : List ℕ) → IsReadFrom (ciphertext_encoding g key ciphertext).cap numbers strings read → read ≡ xored key ciphertext
  gives read is =
      let enough : length is.taken ≡ g.needed = is.takes.enough ∙ needed_is g key ciphertext in
      let each = is.takes.lowest.each in
      let same = agreed is.taken each enough is.extension_block is.u is.agree in
      let decoded : IsDecoded g (numbers_of is.taken) (blocks_in is.taken) is.leaves is.ciphertext =
      subst (λ (v : Contents). IsDecoded (geometry_by v) (numbers_of is.taken) (blocks_in is.taken) is.leaves is.ciphertext) (sym same) is.decoded in
      let text : is.ciphertext ≡ ciphertext =
      same_text g ciphertext shape whole bytes is.ciphertext decoded.size
      (λ number there. own_segment is.taken each enough (rising_distinct (numbers_of is.taken) is.takes.lowest.rising) number (segment_at g number is.ciphertext) there (decoded.segments number there)) in
      is.is_file.decrypted ∙ λ i. xored (key_is g key ciphertext i) (text i)

  -- and they do not contradict one another
  pub agrees : ¬ AreInconsistent (verify_cap g key ciphertext shape whole numbers strings own) numbers strings
  agrees (disagree taken takes d) =
      let each = takes.lowest.each in
      let here = ap (λ (s : Sections). s.extension_block) (sections_of_taken (get_or taken d.position d.lowest) (each d.position d.lowest d.there)) in
      let enough : length taken ≡ g.needed = takes.enough ∙ needed_is g key ciphertext in
      let first = ap (λ (s : Sections). s.extension_block) (sections_of_taken d.lowest (first_taken taken each enough d.lowest d.rest d.is)) in
      d.differs (sym here ∙ first)
  agrees (wrong_segment taken extension_block u leaves takes agree are_leaves w) =
      let each = takes.lowest.each in
      let enough : length taken ≡ g.needed = takes.enough ∙ needed_is g key ciphertext in
      let same = agreed taken each enough extension_block u agree in
      let first = first_taken taken each enough are_leaves.lowest are_leaves.rest are_leaves.is in
      let says = (taken_is g key ciphertext shape whole numbers strings own are_leaves.lowest first).contents_are in
      let count : length leaves ≡ segment_count g = are_leaves.count ∙ ap (λ (v : Contents). segment_count (geometry_by v)) (sym says) in
      let leaves_are = own_leaves are_leaves.lowest leaves first count are_leaves.holds in
      let there : w.number < segment_count g = subst (λ (v : Contents). w.number < segment_count (geometry_by v)) (sym same) w.there in
      let decodes : Decodes g (numbers_of taken) (blocks_in taken) w.number w.segment =
      subst (λ (v : Contents). Decodes (geometry_by v) (numbers_of taken) (blocks_in taken) w.number w.segment) (sym same) w.decodes in
      let segment = own_segment taken each enough (rising_distinct (numbers_of taken) takes.lowest.rising) w.number w.segment there decodes in
      let all : length segments ≡ segment_count g = length-pieces (segment_count g) g.segment_size ciphertext in
      w.wrong
      (ap (tagged_hash CiphertextSegment) (segment ∙ sym (piece_at (segment_count g) g.segment_size ciphertext w.number there))
      ∙ sym (get_or-map (tagged_hash CiphertextSegment) segments w.number [] [] (omega (arith, there, all)))
      ∙ ap (λ (l : List (List ℕ)). get_or l w.number []) (sym leaves_are))

-- enough shares of a file's encoding give the file back
pub own_shares_give_the_file : OwnSharesGiveTheFile
unfolding encoding_of
own_shares_give_the_file file secret p numbers strings shape bytes are =
    let g = geometry_of (length file) p.needed p.total p.max_segment in
    let key = convergent_key_of p.needed p.total g.segment_size secret file in
    let ciphertext = xored key file in
    let encrypted : AreBytes ciphertext = bytes-xored key (bytes-key p.needed p.total g.segment_size secret file) file bytes in
    let whole : length ciphertext ≡ length file = length-xored_from key 0 file in
    record {
      enough = suffices g key ciphertext shape whole numbers strings are.own are;
      consistent = agrees g key ciphertext shape whole encrypted numbers strings are.own;
      only = λ read is. gives g key ciphertext shape whole encrypted numbers strings are.own read is ∙ xored-xored key file;
    }
