-- Reading shares again that passed.
use Rattle.std.proofs.Common.{◌≡◌, ℕ, ◌+◌, ◌<◌, List, [], ◌∷◌, ◌++◌, length, map, take, get_or, All, Bor, inl, inr, refl, ap, sym, subst, ◌∙◌, arith}
use Rattle.std.proofs.lemmas.List.{ext_get_or, get_or-map, get_or_append_left, get_or_at, get_or-take, length-append, length-map, length-take, map-append}
use Rattle.std.proofs.lemmas.Grind.{take_at_read}
use Rattle.std.proofs.lemmas.Bool.{cases_lt}
use Rattle.cap_text.specs.Cap.{ReadCapValue, VerifyCapValue, verify_cap_of}
use Rattle.share_layout.specs.Geometry.{Geometry, segment_count, tree_size}
use Rattle.share_layout.specs.Share.{IsShare, Sections}
use Rattle.share_layout.specs.Offsets.{LocatesUeb}
use Rattle.ueb.specs.Shape.{Contents}
use Rattle.aes_ctr.specs.CounterMode.{xored}
use Rattle.tagged_hash.specs.TaggedHash.{tagged_hash}
use Rattle.tagged_hash.specs.declared.tag.Tag.TheVariants.{CiphertextSegment}
use Rattle.merkle.specs.Tree.{leaves_among, tree_root}
use Rattle.share_layout.specs.Pieces.{pieces}
use Rattle.share_verify.specs.TreeSection.{hashes_in}
use Rattle.share_verify.specs.Verify.{IsSound}
use Rattle.share_verify.proofs.Faults.{same_block}
use Rattle.share_verify.proofs.SectionLemmas.{leaves_in_tree}
use Rattle.share_verify.specs.CapBlock.{IsUebFor, geometry_by}
use Rattle.proved_parts.specs.FileOf.{segment_hashes}
use Rattle.file_encoding.proofs.LowestShares.{rising_distinct}
use Rattle.proved_parts.proofs.Files.{get_or-pieces, length-pieces}
use Rattle.file_encoding.specs.Decoding.{AreBlocks}
use Rattle.file_encoding.specs.LowestShares.{HaveBlocks}
use Rattle.file_encoding.specs.Reading.{GivesCiphertext, Agree, AreLeaves, Disagree, IsReadFrom, IsTaken, TakenShare, Takes, blocks_in, numbers_of, offsets_of}

-- what stands at a position among the strings with their numbers
pub number_at : (shares : List (ℕ × Bor (List ℕ))) (position : ℕ) (d : ℕ × Bor (List ℕ)) → position < length shares
    → get_or (map (λ (s : ℕ × Bor (List ℕ)). s.0) shares) position 0 ≡ (get_or shares position d).0
number_at shares position d inside = get_or-map (λ (s : ℕ × Bor (List ℕ)). s.0) shares position d 0 inside

pub string_at : (shares : List (ℕ × Bor (List ℕ))) (position : ℕ) (d : ℕ × Bor (List ℕ)) → position < length shares
    → get_or (map (λ (s : ℕ × Bor (List ℕ)). s.1.now) shares) position [] ≡ (get_or shares position d).1.now
string_at shares position d inside = get_or-map (λ (s : ℕ × Bor (List ℕ)). s.1.now) shares position d [] inside

pub readable_at : (g : Geometry) (shares : List (ℕ × Bor (List ℕ))) (position : ℕ) (d : ℕ × Bor (List ℕ)) (s : Sections) → position < length shares
    → IsShare g (get_or (map (λ (t : ℕ × Bor (List ℕ)). t.0) shares) position 0) (get_or (map (λ (t : ℕ × Bor (List ℕ)). t.1.now) shares) position []) s
    ≡ IsShare g (get_or shares position d).0 (get_or shares position d).1.now s
readable_at g shares position d s inside = λ i. IsShare g (number_at shares position d inside i) (string_at shares position d inside i) s

-- one more share's blocks
pub blocks_more : (g : Geometry) (shares done new : List (ℕ × Bor (List ℕ))) (positions : List ℕ) (index n : ℕ) (b : Bor (List ℕ)) (d : ℕ × Bor (List ℕ)) → index < length positions
    → get_or positions index 0 < length shares → new ≡ done ++ (n, b) ∷ [] → n ≡ (get_or shares (get_or positions index 0) d).0
    → ((s : Sections) → IsShare g (get_or shares (get_or positions index 0) d).0 (get_or shares (get_or positions index 0) d).1.now s → b.now ≡ s.blocks)
    → HaveBlocks g (map (λ (s : ℕ × Bor (List ℕ)). s.0) shares) (map (λ (s : ℕ × Bor (List ℕ)). s.1.now) shares) (take index positions)
    (map (λ (s : ℕ × Bor (List ℕ)). s.0) done) (map (λ (s : ℕ × Bor (List ℕ)). s.1.now) done)
    → HaveBlocks g (map (λ (s : ℕ × Bor (List ℕ)). s.0) shares) (map (λ (s : ℕ × Bor (List ℕ)). s.1.now) shares) (take (index + 1) positions)
    (map (λ (s : ℕ × Bor (List ℕ)). s.0) new) (map (λ (s : ℕ × Bor (List ℕ)). s.1.now) new)
blocks_more g shares done new positions index n b d inside there pushed named read have =
    let first : ℕ × Bor (List ℕ) → ℕ = λ s. s.0 in
    let second : ℕ × Bor (List ℕ) → List ℕ = λ s. s.1.now in
    let position : ℕ = get_or positions index 0 in
    let one_more : take (index + 1) positions ≡ take index positions ++ position ∷ [] = (take_at_read positions index 0 inside).1 in
    let number : n ≡ get_or (map first shares) position 0 = named ∙ sym (number_at shares position d there) in
    let listed : map second new ≡ map second done ++ b.now ∷ [] = ap (map second) pushed ∙ map-append second done ((n, b) ∷ []) in
    let before : length (take index positions) ≡ index = length-take index positions ∙ omega (arith, inside) in
    let held : length (map second done) ≡ index = have.counted ∙ before in
    let grown : length (take (index + 1) positions) ≡ index + 1 = ap length one_more ∙ length-append (take index positions) (position ∷ []) ∙ ap (λ m. m + 1) before in record {
      numbered =
          ap (map first) pushed ∙ map-append first done ((n, b) ∷ [])
          ∙ (λ i. have.numbered i ++ number i ∷ [])
          ∙ sym (ap (map (λ p. get_or (map first shares) p 0)) one_more ∙ map-append (λ p. get_or (map first shares) p 0) (take index positions) (position ∷ []));
      counted = ap length listed ∙ length-append (map second done) (b.now ∷ []) ∙ omega (arith, held, grown);
      blocks_of = λ m below s is.
          elim (cases_lt m index) [
            | inl old ↦ (let same : get_or (take (index + 1) positions) m 0 ≡ get_or (take index positions) m 0 =
                ap (λ ps. get_or ps m 0) one_more ∙ get_or_append_left (take index positions) (position ∷ []) 0 m (omega (arith, old, before)) in
                ap (λ bs. get_or bs m []) listed ∙ get_or_append_left (map second done) (b.now ∷ []) [] m (omega (arith, old, held))
                ∙ have.blocks_of m (omega (arith, old, before)) s
                (subst (λ p. IsShare g (get_or (map first shares) p 0) (get_or (map second shares) p []) s) same is))
            | inr new_one ↦ (let at : m ≡ index = omega (arith, new_one, below, grown) in
                let same : get_or (take (index + 1) positions) m 0 ≡ position = ap (λ k. get_or (take (index + 1) positions) k 0) at ∙ get_or-take (index + 1) positions index 0 (omega arith) in
                ap (λ bs. get_or bs m []) listed ∙ get_or_at (map second done) (b.now) [] [] m (held ∙ sym at)
                ∙ read s (subst (λ (T : Type 0). T) (readable_at g shares position d s there)
                (subst (λ p. IsShare g (get_or (map first shares) p 0) (get_or (map second shares) p []) s) same is)))
          ];
    }

-- what the shares that are taken have in common, where they agree with the extension block of one
module _ (cap : VerifyCapValue) (numbers : List ℕ) (strings : List (List ℕ)) (taken : List TakenShare) (takes : Takes cap numbers strings taken)
    (positions : List ℕ) (at : positions ≡ offsets_of taken) (block : List ℕ) (u : Contents)
    (located : (m : ℕ) → m < length positions → LocatesUeb (get_or strings (get_or positions m 0) []) block)
    (one_ueb : (v : Contents) → IsUebFor cap block v → u ≡ v) where
  -- any share
  any : TakenShare
  any = record { position = 0; number = 0; contents = u; sections = record { blocks = []; unused = []; ciphertext_tree = []; block_tree = []; share_hashes = []; extension_block = [] } }

  count : length positions ≡ length taken
  count = ap length at ∙ length-map taken (λ (t : TakenShare). t.position)

  position_at : (k : ℕ) (d : TakenShare) → k < length taken → get_or positions k 0 ≡ (get_or taken k d).position
  position_at k d inside = ap (λ ps. get_or ps k 0) at ∙ get_or-map (λ (t : TakenShare). t.position) taken k d 0 inside

  block_at_position : (k : ℕ) (d : TakenShare) → k < length taken → block ≡ (get_or taken k d).sections.extension_block
  block_at_position k d inside =
      let t : TakenShare = get_or taken k d in
      same_block (get_or strings (get_or positions k 0) []) block t.sections.extension_block (located k (omega (arith, inside, count)))
      (subst (λ p. LocatesUeb (get_or strings p []) t.sections.extension_block) (sym (position_at k d inside)) (takes.lowest.each k d inside).sound.reads.located)

  contents_at : (k : ℕ) (d : TakenShare) → k < length taken → u ≡ (get_or taken k d).contents
  contents_at k d inside =
      one_ueb (get_or taken k d).contents (subst (λ b. IsUebFor cap b (get_or taken k d).contents) (sym (block_at_position k d inside)) (takes.lowest.each k d inside).sound.reads.ueb)

  pub they_agree : Agree taken block u
  they_agree k d inside = (sym (block_at_position k d inside), sym (contents_at k d inside))

  pub own_ueb : 0 < length taken → IsUebFor cap block u
  own_ueb some =
      subst (λ (T : Type 0). T) (λ i. IsUebFor cap (sym (block_at_position 0 any some) i) (sym (contents_at 0 any some) i)) (takes.lowest.each 0 any some).sound.reads.ueb

  is_share : (k : ℕ) (d : TakenShare) → k < length taken
      → IsShare (geometry_by u) (get_or numbers (get_or positions k 0) 0) (get_or strings (get_or positions k 0) []) (get_or taken k d).sections
  is_share k d inside =
      let t : TakenShare = get_or taken k d in
      let each = takes.lowest.each k d inside in
      let number : t.number ≡ get_or numbers (get_or positions k 0) 0 = sym each.first.passes.0 ∙ ap (λ p. get_or numbers p 0) (sym (position_at k d inside)) in
      subst (λ (T : Type 0). T)
      (λ i. IsShare (geometry_by (sym (contents_at k d inside) i)) (number i) (get_or strings (sym (position_at k d inside) i) []) t.sections) each.sound.reads.layout

  pub readable : (m : ℕ) → m < length positions → (s : Sections) × IsShare (geometry_by u) (get_or numbers (get_or positions m 0) 0) (get_or strings (get_or positions m 0) []) s
  readable m inside = ((get_or taken m any).sections, is_share m any (omega (arith, inside, count)))

  pub inside_all : All (λ p. p < length numbers) positions
  inside_all k d inside =
      let here : k < length taken = omega (arith, inside, count) in
      let first = (takes.lowest.each k any here).first.inside in
      let p : get_or positions k d ≡ (get_or taken k any).position = ap (λ ps. get_or ps k d) at ∙ get_or-map (λ (t : TakenShare). t.position) taken k any d here in
      subst (λ n. n < length numbers) (sym p) first

  module _ (these : List ℕ) (blocks : List (List ℕ)) (have : HaveBlocks (geometry_by u) numbers strings positions these blocks) where
    pub numbers_are : these ≡ numbers_of taken
    numbers_are =
        let mapped : these ≡ map (λ p. get_or numbers p 0) positions = have.numbered in
        let long : length these ≡ length taken = ap length mapped ∙ length-map positions (λ p. get_or numbers p 0) ∙ count in
        ext_get_or 0 these (numbers_of taken) (long ∙ sym (length-map taken (λ (t : TakenShare). t.number))) (λ k inside.
        let here : k < length taken = omega (arith, inside, long) in
        ap (λ ns. get_or ns k 0) mapped ∙ get_or-map (λ p. get_or numbers p 0) positions k 0 0 (omega (arith, here, count))
        ∙ ap (λ p. get_or numbers p 0) (position_at k any here) ∙ (takes.lowest.each k any here).first.passes.0
        ∙ sym (get_or-map (λ (t : TakenShare). t.number) taken k any 0 here))

    pub blocks_are_own : blocks ≡ blocks_in taken
    blocks_are_own =
        let long : length blocks ≡ length taken = have.counted ∙ count in
        ext_get_or [] blocks (blocks_in taken) (long ∙ sym (length-map taken (λ (t : TakenShare). t.sections.blocks))) (λ k inside.
        let here : k < length taken = omega (arith, inside, long) in
        have.blocks_of k (omega (arith, here, count)) (get_or taken k any).sections (is_share k any here)
        ∙ sym (get_or-map (λ (t : TakenShare). t.sections.blocks) taken k any [] here))

    pub are_blocks : 0 < length taken → AreBlocks (geometry_by u) these blocks
    are_blocks some =
        let ueb = own_ueb some in
        let many : length taken ≡ u.needed_shares = takes.enough ∙ sym ueb.needed in
        let listed : length (numbers_of taken) ≡ length taken = length-map taken (λ (t : TakenShare). t.number) in
        let cut : length (blocks_in taken) ≡ length taken = length-map taken (λ (t : TakenShare). t.sections.blocks) in
        let of_taken : AreBlocks (geometry_by u) (numbers_of taken) (blocks_in taken) = record {
          count = listed ∙ many;
          counted = cut ∙ many;
          in_range = λ k d inside.
              let here : k < length taken = omega (arith, inside, listed) in
              let low = takes.lowest.low k any here in
              let is : get_or (numbers_of taken) k d ≡ (get_or taken k any).number = get_or-map (λ (t : TakenShare). t.number) taken k any d here in
              omega (arith, low, is, ueb.total);
          distinct = rising_distinct (numbers_of taken) takes.lowest.rising;
          whole = λ k d inside.
              let here : k < length taken = omega (arith, inside, cut) in
              ap length (get_or-map (λ (t : TakenShare). t.sections.blocks) taken k any d here) ∙ (is_share k any here).lengths.blocks;
        } in
        subst (λ (T : Type 0). T) (λ i. AreBlocks (geometry_by u) (sym numbers_are i) (sym blocks_are_own i)) of_taken

-- the first of some
pub first_of : (taken : List TakenShare) → 0 < length taken → (t : TakenShare) × (rest : List TakenShare) × (taken ≡ t ∷ rest)
first_of [] some = absurd (omega arith)
first_of (t ∷ rest) some = (t, rest, refl)

-- the first of the shares that are taken
module _ (cap : VerifyCapValue) (shares : List (ℕ × Bor (List ℕ))) (taken : List TakenShare)
    (takes : Takes cap (map (λ (s : ℕ × Bor (List ℕ)). s.0) shares) (map (λ (s : ℕ × Bor (List ℕ)). s.1.now) shares) taken)
    (positions : List ℕ) (at : positions ≡ offsets_of taken) where
  pub taken_some : 0 < length positions → 0 < length taken
  taken_some some = let count : length positions ≡ length taken = ap length at ∙ length-map taken (λ (t : TakenShare). t.position) in omega (arith, some, count)

  pub inside_shares : (k d : ℕ) → k < length positions → get_or positions k d < length shares
  inside_shares k d inside =
      let count : length positions ≡ length taken = ap length at ∙ length-map taken (λ (t : TakenShare). t.position) in
      let here : k < length taken = omega (arith, inside, count) in
      let t : TakenShare = (first_of taken (omega (arith, here))).0 in
      let first = (takes.lowest.each k t here).first.inside in
      let p : get_or positions k d ≡ (get_or taken k t).position = ap (λ ps. get_or ps k d) at ∙ get_or-map (λ (u : TakenShare). u.position) taken k t d here in
      let all = length-map shares (λ (s : ℕ × Bor (List ℕ)). s.0) in
      omega (arith, first, p, all)

  module _ (some : 0 < length positions) (d : ℕ × Bor (List ℕ)) where
    abbrev pub lowest : TakenShare
    lowest = (first_of taken (taken_some some)).0

    abbrev pub others : List TakenShare
    others = (first_of taken (taken_some some)).1

    pub taken_is : taken ≡ lowest ∷ others
    taken_is = (first_of taken (taken_some some)).2

    pub lowest_sound : IsSound cap (get_or shares (get_or positions 0 0) d).0 (get_or shares (get_or positions 0 0) d).1.now lowest.contents lowest.sections
    lowest_sound =
        let here : 0 < length taken = taken_some some in
        let is : get_or taken 0 lowest ≡ lowest = ap (λ ts. get_or ts 0 lowest) taken_is in
        let each = subst (IsTaken cap (map (λ (s : ℕ × Bor (List ℕ)). s.0) shares) (map (λ (s : ℕ × Bor (List ℕ)). s.1.now) shares)) is (takes.lowest.each 0 lowest here) in
        let position : get_or positions 0 0 ≡ lowest.position =
        ap (λ ps. get_or ps 0 0) at ∙ get_or-map (λ (u : TakenShare). u.position) taken 0 lowest 0 here ∙ ap (λ (u : TakenShare). u.position) is in
        let inside = inside_shares 0 0 some in
        let number : lowest.number ≡ (get_or shares (get_or positions 0 0) d).0 =
        sym each.first.passes.0 ∙ ap (λ p. get_or (map (λ (s : ℕ × Bor (List ℕ)). s.0) shares) p 0) (sym position) ∙ number_at shares (get_or positions 0 0) d inside in
        let string : get_or (map (λ (s : ℕ × Bor (List ℕ)). s.1.now) shares) lowest.position [] ≡ (get_or shares (get_or positions 0 0) d).1.now =
        ap (λ p. get_or (map (λ (s : ℕ × Bor (List ℕ)). s.1.now) shares) p []) (sym position) ∙ string_at shares (get_or positions 0 0) d inside in
        subst (λ (T : Type 0). T) (λ i. IsSound cap (number i) (string i) lowest.contents lowest.sections) each.sound

    -- another extension block at one of the positions
    pub disagree : (block : List ℕ) (m : ℕ) → m < length positions → block ≡ lowest.sections.extension_block
        → ¬ LocatesUeb (get_or (map (λ (s : ℕ × Bor (List ℕ)). s.1.now) shares) (get_or positions m 0) []) block → Disagree taken
    disagree block m below own not_there =
        let count : length positions ≡ length taken = ap length at ∙ length-map taken (λ (t : TakenShare). t.position) in
        let here : m < length taken = omega (arith, below, count) in
        let position : get_or positions m 0 ≡ (get_or taken m lowest).position = ap (λ ps. get_or ps m 0) at ∙ get_or-map (λ (u : TakenShare). u.position) taken m lowest 0 here in record {
          lowest = lowest;
          rest = others;
          is = taken_is;
          position = m;
          there = here;
          differs = λ same.
              not_there (subst (λ (T : Type 0). T)
              (λ i. LocatesUeb (get_or (map (λ (s : ℕ × Bor (List ℕ)). s.1.now) shares) (sym position i) []) ((same ∙ sym own) i)) (takes.lowest.each m lowest here).sound.reads.located);
        }

    -- the length of its ciphertext tree, and the leaves in it
    pub tree_long : length lowest.sections.ciphertext_tree ≡ tree_size (geometry_by lowest.contents)
    tree_long = lowest_sound.reads.layout.lengths.ciphertext_tree

    pub tree_leaves : (n : ℕ) (section : List ℕ) → n ≡ segment_count (geometry_by lowest.contents) → section ≡ lowest.sections.ciphertext_tree
        → leaves_among (hashes_in section) n ≡ lowest_sound.sections.ciphertext_tree.leaves
    tree_leaves n section count is =
        let tree = lowest_sound.sections.ciphertext_tree in
        ap (λ x. leaves_among (hashes_in x) n) is ∙ leaves_in_tree n lowest.sections.ciphertext_tree tree.leaves (tree.count ∙ sym count) tree.holds

    pub are_leaves : AreLeaves taken lowest_sound.sections.ciphertext_tree.leaves
    are_leaves = record {
      lowest = lowest;
      rest = others;
      is = taken_is;
      count = lowest_sound.sections.ciphertext_tree.count;
      holds = lowest_sound.sections.ciphertext_tree.holds;
    }

-- the ciphertext, decrypted, is the file
pub read_is : (cap : ReadCapValue) (numbers : List ℕ) (strings : List (List ℕ)) (ciphertext file : List ℕ)
    → GivesCiphertext (verify_cap_of cap) numbers strings ciphertext → file ≡ xored cap.key ciphertext → IsReadFrom cap numbers strings file
read_is cap numbers strings ciphertext file gives decrypted =
    let g : Geometry = geometry_by gives.u in
    let cut : List (List ℕ) = pieces (segment_count g) g.segment_size ciphertext in
    let many : length cut ≡ segment_count g = length-pieces (segment_count g) g.segment_size ciphertext in
    let hashes : segment_hashes cut ≡ gives.leaves =
    ext_get_or [] (segment_hashes cut) gives.leaves (length-map cut (tagged_hash CiphertextSegment) ∙ many ∙ sym gives.count) (λ i inside.
    let here : i < segment_count g = (let all = length-map cut (tagged_hash CiphertextSegment) in omega (arith, inside, all, many)) in
    get_or-map (tagged_hash CiphertextSegment) cut i [] [] (omega (arith, here, many))
    ∙ ap (tagged_hash CiphertextSegment) (get_or-pieces (segment_count g) g.segment_size i ciphertext [] here)
    ∙ gives.decoded.hashes i here) in record {
      taken = gives.taken;
      takes = gives.takes;
      extension_block = gives.extension_block;
      u = gives.u;
      agree = gives.agree;
      leaves = gives.leaves;
      are_leaves = gives.are_leaves;
      ciphertext = ciphertext;
      decoded = gives.decoded;
      is_file = record { block = gives.ueb; size = gives.decoded.size ∙ gives.ueb.size; root = ap tree_root hashes ∙ gives.root; decrypted = decrypted };
    }
