-- The next segment is made, or its blocks are refuted.
use Rattle.std.proofs.Common.{◌≡◌, ℕ, zero, suc, ◌+◌, ◌*◌, ◌<◌, inl, inr, All, true, Contains, List, [], ◌∷◌, ◌++◌, length, take, drop, get_or, Option, Some, None, IfSome, is_some, option_and_then, refl, sym, ap, subst, ◌∙◌, arith, suc-mul}
use Rattle.std.specs.Prelude.{slice_get, slice_index}
use Rattle.std.proofs.Math.Seq.{drop-append-add, take-append_seam}
use Rattle.std.proofs.lemmas.Bool.{cases_order, false≢true}
use Rattle.std.proofs.lemmas.List.{length-map}
use Rattle.std.proofs.lemmas.List.Elements.{All-contains}
use Rattle.std.proofs.lemmas.Option.{get_or_from_slice_get, slice_get-get_or, slice_get_within}
use Rattle.proved_parts.proofs.Files.{length-pieces}
use Rattle.lemmas.proofs.Members.{contains_at, contains_head, contains_tail}
use Rattle.request_record.specs.declared.requests.Request.{Request}
use Rattle.tagged_hash.specs.TaggedHash.{tagged_input}
use Rattle.tagged_hash.specs.declared.tag.Tag.TheVariants.{Block}
use Rattle.merkle.specs.Known.{IsKnownInput}
use Rattle.merkle.specs.Partial.{PartialState}
use Rattle.share_layout.specs.Geometry.{Geometry, segment_count}
use Rattle.share_layout.specs.Pieces.{block_length}
use Rattle.share_layout.proofs.CutLemmas as cut
use Rattle.share_verify.specs.CapBlock.{geometry_by}
use Rattle.proved_parts.specs.Decoding.{DecodesBlocks}
use Rattle.download_parts.specs.Trees.{IsBlockTree, LeadTo, known_leaf, share_leaves}
use Rattle.download_supply.specs.Blocks.{IsHeld, IsReady}
use Rattle.download_supply.specs.Taking.{IsProved}
use Rattle.download_segments.specs.Decoding.{AreShareNumbers, blocks_in}
use Rattle.download_segments.specs.Handout.{next_segment}
use Rattle.download_segments.specs.NoCodeWord.{IsAnyInput, IsBlockIn, IsNoCodeWord, IsNoCodeWordIn}
use Rattle.download_segments.specs.State.{HandoutState, RefutesSegment}
use Rattle.download_segments.proofs.LawLemmas.{blocks_lead_in, no_code_words_in}
use Rattle.download_segments.specs.GroupMaking.{nth_block}
use Rattle.download_segments.specs.GroupState.{GroupState}
use Rattle.download_file.specs.State.{FileState, IsLive, ReaderState, numbers_of, share_in}
use Rattle.download_file.specs.Answers.{HaveRightBlocks, IsRead, block_in, block_of, blocks_of}
use Rattle.download_file.specs.Making.{IsInconsistent, RefutesReader}
use Rattle.download_file.specs.Right.{IsFile, TellsRoot}
use Rattle.download_file.specs.Steps.{AreOfFile, AreProved, AreReady, HasBlock, IsWrong}
use Rattle.download_file.proofs.ListLemmas.{All-from_contains, at_contained, from_map, get_unmapped}
use Rattle.download_file.proofs.GrowLemmas.{has_answers, reader_there}
use Rattle.download_file.proofs.LiveLemmas.{distinct_order}
use Rattle.download_file.proofs.EvidenceLemmas.{block_long, blocks_long}

-- ---- blocks of one length that stand one after another

pub nth_is : (entries : List Request) (readers : List ReaderState) (number size : ℕ) (positions : List ℕ) (k position : ℕ)
    → ((p : ℕ) → Contains positions p → length (block_in entries number (slice_get readers p)) ≡ size) → slice_get positions k ≡ Some position
    → nth_block (blocks_of entries readers number positions) size k ≡ block_in entries number (slice_get readers position)
nth_is entries readers number size [] k position long at = absurd cc
nth_is entries readers number size (p ∷ ps) zero position long at =
    let same : p ≡ position = cc in
    let b : List ℕ = block_in entries number (slice_get readers p) in
    let rest : List ℕ = blocks_of entries readers number ps in
    let none : 0 * size ≡ 0 = omega arith in
    ap (λ (n : ℕ). take size (drop n (b ++ rest))) none
    ∙ ap (λ (n : ℕ). take n (b ++ rest)) (sym (long p (contains_head p ps))) ∙ take-append_seam b rest
    ∙ ap (λ (q : ℕ). block_in entries number (slice_get readers q)) same
nth_is entries readers number size (p ∷ ps) (suc k) position long at =
    let b : List ℕ = block_in entries number (slice_get readers p) in
    let rest : List ℕ = blocks_of entries readers number ps in
    let is : length b ≡ size = long p (contains_head p ps) in
    let more : suc k * size ≡ length b + k * size = suc-mul k size ∙ omega (arith, is) in
    ap (λ (n : ℕ). take size (drop n (b ++ rest))) more ∙ ap (take size) (drop-append-add b rest (k * size))
    ∙ nth_is entries readers number size ps k position (λ q among. long q (contains_tail p q ps among)) at

-- ---- the blocks of the readers that are read

module _ (entries : List Request) (f : FileState) (number size : ℕ) (is : IsFile f) (read : IsRead entries f) (there : number < segment_count f.handout.geometry)
    (long : size ≡ block_length f.handout.geometry number) (ready : AreReady f.readers f.live number) where
  pub of_file : AreOfFile entries f.handout.geometry f.readers
  of_file = record {
    supply = λ position r at. (is.readers position r at).supply;
    geometry = λ position r at. (is.readers position r at).geometry;
    held = read.held;
  }

  reader_at : (position : ℕ) → IsLive f position → (r : ReaderState) × (slice_get f.readers position ≡ Some r) × IsHeld r.supply number
  reader_at position live =
      let r = reader_there f.readers position (All-contains (λ p. p < length f.readers) f.live position is.live.there live) in
      (r.0, r.1, (ready position r.0 live r.1).held)

  pub live_blocks : All (HasBlock f.readers number size) f.live
  live_blocks = All-from_contains (HasBlock f.readers number size) f.live (λ position live.
      let r = reader_at position live in
      record { r = r.0; there = r.1; held = r.2; long = long ∙ ap (λ (g : Geometry). block_length g number) (sym (is.readers position r.0 r.1).geometry) })

  its_length : (position : ℕ) → IsLive f position → length (block_in entries number (slice_get f.readers position)) ≡ size
  its_length position live =
      let r = reader_at position live in
      ap (λ (o : Option ReaderState). length (block_in entries number o)) r.1
      ∙ block_long entries r.0.supply number (is.readers position r.0 r.1).supply r.2 (has_answers entries r.0 (read.held position r.0 r.1))
      ∙ ap (λ (g : Geometry). block_length g number) (is.readers position r.0 r.1).geometry ∙ sym long

  pub all_long : length (blocks_of entries f.readers number f.live) ≡ length f.live * size
  all_long = blocks_long entries f.handout.geometry f.readers f.live number of_file reader_at ∙ ap (λ (n : ℕ). length f.live * n) (sym long)

  -- the block of a reader among those that stand one after another
  pub nth_own : (k position : ℕ) (r : ReaderState) → slice_get f.live k ≡ Some position → slice_get f.readers position ≡ Some r
      → nth_block (blocks_of entries f.readers number f.live) size k ≡ block_of entries r.supply number
  nth_own k position r at at_reader = nth_is entries f.readers number size f.live k position its_length at ∙ ap (block_in entries number) at_reader

  -- what is known of the hash of a block that is ready
  known_tree : (r : ReaderState) → IsReady r.supply number → (tree : PartialState) × (r.supply.tree ≡ Some tree) × (leaf : List ℕ) × (known_leaf tree number ≡ Some leaf)
  known_tree r own = by r.supply.tree refl
    where
      leaf_of : (tree : PartialState) (o : Option (List ℕ)) → known_leaf tree number ≡ o → is_some o ≡ true → (leaf : List ℕ) × (known_leaf tree number ≡ Some leaf)
      leaf_of tree (Some leaf) e known = (leaf, e)
      leaf_of tree None e known = absurd (false≢true known)

      by : (o : Option PartialState) → r.supply.tree ≡ o → (tree : PartialState) × (r.supply.tree ≡ Some tree) × (leaf : List ℕ) × (known_leaf tree number ≡ Some leaf)
      by None e = absurd (false≢true (sym (ap (λ (o : Option PartialState). is_some (option_and_then (λ tree. known_leaf tree number) o)) e) ∙ own.known))
      by (Some tree) e =
          let k = leaf_of tree (known_leaf tree number) refl (sym (ap (λ (o : Option PartialState). is_some (option_and_then (λ t. known_leaf t number) o)) e) ∙ own.known) in
          (tree, e, k.0, k.1)

  pub refutes_reader : next_segment f.handout ≡ Some number → (joined : List ℕ) (position : ℕ) → joined ≡ blocks_of entries f.readers number f.live → IsWrong f.readers f.live number joined size position → RefutesReader entries f position
  refutes_reader next joined position joins wrong =
      let live = contains_at f.live wrong.k position wrong.at in
      let own = ready position wrong.r live wrong.there in
      let tree = known_tree wrong.r own in
      let block : nth_block joined size wrong.k ≡ block_of entries wrong.r.supply number = ap (λ (l : List ℕ). nth_block l size wrong.k) joins ∙ nth_own wrong.k position wrong.r wrong.at wrong.there in
      record {
        live = live;
        r = wrong.r;
        there = wrong.there;
        number = number;
        next = next;
        held = own.held;
        tree = tree.0;
        is = tree.1;
        long = block_long entries wrong.r.supply number (is.readers position wrong.r wrong.there).supply own.held (has_answers entries wrong.r (read.held position wrong.r wrong.there))
            ∙ ap (λ (g : Geometry). block_length g number) (is.readers position wrong.r wrong.there).geometry;
        refuted = record {
          leaf = tree.2;
          known = tree.3;
          differs = λ same. wrong.not (subst (IsProved wrong.r.supply number) (sym block)
              (ap (option_and_then (λ t. known_leaf t number)) tree.1 ∙ tree.3 ∙ ap Some same));
        };
      }

  -- those that are proved are right
  pub right_blocks : (joined : List ℕ) → joined ≡ blocks_of entries f.readers number f.live → AreProved f.readers f.live number joined size (length f.live)
      → HaveRightBlocks entries f.readers f.live number
  right_blocks joined joins proved position r live there =
      let at = at_contained f.live position live in
      record {
        ready = ready position r live there;
        proved = subst (IsProved r.supply number) (ap (λ (l : List ℕ). nth_block l size at.0) joins ∙ nth_own at.0 position r at.1 there)
            (proved at.0 position r (slice_get_within f.live at.0 position at.1) at.1 there);
      }

  -- ---- no code word

  module _ (joined : List ℕ) (joins : joined ≡ blocks_of entries f.readers number f.live) (proved : AreProved f.readers f.live number joined size (length f.live)) where
    module _ (IsOne : List ℕ → Type 0) (in_shares : (input : List ℕ) → IsKnownInput f.handout.trees.shares input → IsOne input)
        (in_block_tree : (position : ℕ) (r : ReaderState) (tree : PartialState) → IsLive f position → slice_get f.readers position ≡ Some r → r.supply.tree ≡ Some tree → (input : List ℕ) → IsKnownInput tree input → IsOne input)
        (of_block : (position : ℕ) (r : ReaderState) → IsLive f position → slice_get f.readers position ≡ Some r → IsOne (tagged_input Block (block_of entries r.supply number))) where
      by_live : (i share : ℕ) (block : List ℕ) → slice_get (numbers_of f.readers f.live) i ≡ Some share → slice_get (blocks_in f.handout.geometry number joined) i ≡ Some block
          → IsBlockIn IsOne f.handout.ueb share number block
      by_live i share block at_number at_block =
          let position = get_unmapped (λ (p : ℕ). share_in (slice_get f.readers p)) f.live i share at_number in
          let live = contains_at f.live i position.0 position.1 in
          let r = reader_at position.0 live in
          let own = is.readers position.0 r.0 r.1 in
          let g = f.handout.geometry in
          let u = f.handout.ueb in
          let low : i < g.needed = let l = slice_get_within (blocks_in g number joined) i block at_block in let count = length-pieces g.needed (block_length g number) joined in omega (arith, l, count) in
          let block_is : nth_block joined size i ≡ block =
          ap (λ (n : ℕ). nth_block joined n i) long ∙ sym (cut.piece_at g.needed (block_length g number) i joined low) ∙ get_or_from_slice_get (blocks_in g number joined) i block [] at_block in
          let proves : IsProved r.0.supply number block = subst (IsProved r.0.supply number) block_is (proved i position.0 r.0 (slice_get_within f.live i position.0 position.1) position.1 r.1) in
          let tree = known_tree r.0 (ready position.0 r.0 live r.1) in
          let same : share ≡ r.0.share = sym position.2 ∙ ap share_in r.1 in
          let by_u : g ≡ geometry_by u = is.handout.geometry in
          let low_share = own.share in
          let total = ap (λ (h : Geometry). h.total) by_u in
          let h = is.handout in
          let shares : LeadTo f.handout.trees.shares u.share_root_hash (share_leaves u.total_shares) = record {
            sound = h.trees.shares.sound;
            of_root = h.roots.shares;
            leaves = h.trees.shares.leaves ∙ ap (λ (x : Geometry). share_leaves x.total) (h.roots.geometry ∙ by_u);
          } in
          let known : known_leaf f.handout.trees.shares share ≡ Some tree.0.root =
          subst (λ (n : ℕ). known_leaf f.handout.trees.shares n ≡ Some tree.0.root) (sym same) (subst (TellsRoot f.handout.trees.shares r.0.share) tree.1 own.root) in
          let leads : IsBlockTree tree.0 (segment_count (geometry_by u)) =
          subst (λ (h : Geometry). IsBlockTree tree.0 (segment_count h)) (own.geometry ∙ by_u)
          (subst (λ (o : Option PartialState). IfSome o (λ t. IsBlockTree t (segment_count r.0.supply.geometry))) tree.1 own.supply.leads) in
          let size_is : length block ≡ block_length (geometry_by u) number =
          sym (ap length block_is) ∙ ap length (ap (λ (l : List ℕ). nth_block l size i) joins ∙ nth_own i position.0 r.0 position.1 r.1)
          ∙ sym (ap (λ (o : Option ReaderState). length (block_in entries number o)) r.1) ∙ its_length position.0 live ∙ long ∙ ap (λ (h : Geometry). block_length h number) by_u in
          let own_block : block_of entries r.0.supply number ≡ block = sym (ap (λ (l : List ℕ). nth_block l size i) joins ∙ nth_own i position.0 r.0 position.1 r.1) ∙ block_is in
          blocks_lead_in IsOne u f.handout.trees.shares tree.0 share number block (omega (arith, same, low_share, total)) (subst (λ (h : Geometry). number < segment_count h) by_u there) shares h.trees.share_hashes known leads
          (sym (ap (option_and_then (λ t. known_leaf t number)) tree.1) ∙ proves) size_is
          in_shares (in_block_tree position.0 r.0 tree.0 live r.1 tree.1) (subst (λ (b : List ℕ). IsOne (tagged_input Block b)) own_block (of_block position.0 r.0 live r.1))

      pub no_code_word_in : (numbers segment : List ℕ) → numbers ≡ numbers_of f.readers f.live → AreShareNumbers f.handout.geometry numbers
          → DecodesBlocks f.handout.geometry numbers (blocks_in f.handout.geometry number joined) number segment → RefutesSegment f.handout number segment
          → ((input : List ℕ) → IsKnownInput f.handout.trees.ciphertext input → IsOne input) → IsNoCodeWordIn IsOne f.handout.ueb
      no_code_word_in numbers segment same shares decodes refutes in_ciphertext =
          no_code_words_in IsOne f.handout numbers number joined segment is.handout there shares decodes
          (λ i share block at_number at_block. by_live i share block (ap (λ (l : List ℕ). slice_get l i) (sym same) ∙ at_number) at_block) refutes in_ciphertext

    pub is_no_code_word : (numbers segment : List ℕ) → numbers ≡ numbers_of f.readers f.live → AreShareNumbers f.handout.geometry numbers
        → DecodesBlocks f.handout.geometry numbers (blocks_in f.handout.geometry number joined) number segment → RefutesSegment f.handout number segment → IsNoCodeWord f.handout.ueb
    is_no_code_word numbers segment same shares decodes refutes =
        no_code_word_in IsAnyInput (λ input known. tt) (λ position r tree live at is_tree input known. tt) (λ position r live at. tt) numbers segment same shares decodes refutes (λ input known. tt)

-- ---- the numbers of the shares that are read

pub live_numbers : (f : FileState) → IsFile f → length f.live ≡ f.handout.geometry.needed → AreShareNumbers f.handout.geometry (numbers_of f.readers f.live)
live_numbers f is enough = record {
  enough = length-map f.live (λ reader. share_in (slice_get f.readers reader)) ∙ enough;
  below = All-from_contains (λ n. n < f.handout.geometry.total) (numbers_of f.readers f.live) (λ n among.
      let reader = from_map (λ (p : ℕ). share_in (slice_get f.readers p)) f.live n among in
      let r = reader_there f.readers reader.0 (All-contains (λ p. p < length f.readers) f.live reader.0 is.live.there reader.1) in
      let same : r.0.share ≡ n = sym (ap share_in r.1) ∙ reader.2 in
      let low = (is.readers reader.0 r.0 r.1).share in
      omega (arith, low, same));
  distinct = λ i j low_i low_j same. elim (cases_order i j) [
    | inl e ↦ e
    | inr other ↦ absurd (elim other [
      | inl less ↦ differ i j less (number_at i low_i) (number_at j low_j) same
      | inr more ↦ differ j i more (number_at j low_j) (number_at i low_i) (sym same)
    ])
  ];
} where
  number_at : (i : ℕ) → i < length (numbers_of f.readers f.live) → (n : ℕ) × (slice_get (numbers_of f.readers f.live) i ≡ Some n) × (slice_index (numbers_of f.readers f.live) i ≡ n)
  number_at i low = (get_or (numbers_of f.readers f.live) i 0, slice_get-get_or (numbers_of f.readers f.live) i 0 low, refl)

  differ : (i j : ℕ) → i < j → ((n : ℕ) × (slice_get (numbers_of f.readers f.live) i ≡ Some n) × (slice_index (numbers_of f.readers f.live) i ≡ n))
      → ((n : ℕ) × (slice_get (numbers_of f.readers f.live) j ≡ Some n) × (slice_index (numbers_of f.readers f.live) j ≡ n))
      → slice_index (numbers_of f.readers f.live) i ≡ slice_index (numbers_of f.readers f.live) j → ⊥
  differ i j order one two same =
      let p = get_unmapped (λ (q : ℕ). share_in (slice_get f.readers q)) f.live i one.0 one.1 in
      let q = get_unmapped (λ (x : ℕ). share_in (slice_get f.readers x)) f.live j two.0 two.1 in
      let live_p = contains_at f.live i p.0 p.1 in
      let live_q = contains_at f.live j q.0 q.1 in
      let r = reader_there f.readers p.0 (All-contains (λ x. x < length f.readers) f.live p.0 is.live.there live_p) in
      let s = reader_there f.readers q.0 (All-contains (λ x. x < length f.readers) f.live q.0 is.live.there live_q) in
      is.live.different p.0 q.0 r.0 s.0 (inl live_p) (inl live_q) (distinct_order f.live i j p.0 q.0 is.live.once order p.1 q.1) r.1 s.1
      (sym (ap share_in r.1) ∙ p.2 ∙ sym one.2 ∙ same ∙ two.2 ∙ sym q.2 ∙ ap share_in s.1)

-- ---- what is decoded is refuted

pub inconsistent_with : (entries : List Request) (f : FileState) (number : ℕ) (joined segment numbers : List ℕ) (h' : HandoutState) (groups : List GroupState)
    → next_segment f.handout ≡ Some number → length f.live ≡ f.handout.geometry.needed → HaveRightBlocks entries f.readers f.live number
    → joined ≡ blocks_of entries f.readers number f.live → numbers ≡ numbers_of f.readers f.live
    → DecodesBlocks f.handout.geometry numbers (blocks_in f.handout.geometry number joined) number segment → RefutesSegment f.handout number segment → h' ≡ f.handout
    → IsInconsistent entries (record f { handout = h'; groups = groups })
inconsistent_with entries f number joined segment numbers h' groups next enough right joins same decodes refutes handout =
    subst (λ (h : HandoutState). IsInconsistent entries (record f { handout = h; groups = groups })) (sym handout) (record {
      number = number;
      next = next;
      enough = enough;
      right = right;
      segment = segment;
      decodes = subst (λ (l : List ℕ). DecodesBlocks f.handout.geometry (numbers_of f.readers f.live) (blocks_in f.handout.geometry number l) number segment) joins
          (subst (λ (ns : List ℕ). DecodesBlocks f.handout.geometry ns (blocks_in f.handout.geometry number joined) number segment) same decodes);
      refuted = refutes;
    })
