-- Blocks that are written over a piece of their share, one after another.
use Rattle.std.proofs.Common.{◌≡◌, ℕ, ◌+◌, ◌-◌, ◌*◌, ◌/◌, ◌<◌, ◌≤◌, ◌⊎◌, List, [], ◌∷◌, ◌++◌, length, take, drop, min, get_or, refl, inl, inr, ap, sym, subst, ◌∙◌, arith}
use Rattle.std.specs.Int.{div_ceil}
use Rattle.std.proofs.Math.ListN.{set}
use Rattle.std.proofs.Math.Nat.{div-mul-le_self, lt-div-mul-add, mul-le-mul_right}
use Rattle.std.proofs.Math.Seq.{map-set_same}
use Rattle.std.proofs.lemmas.Bool.{cases_lt}
use Rattle.std.proofs.lemmas.Grind.{div_ceil_times}
use Rattle.std.proofs.lemmas.List.{append_assoc, append-nil, drop-append-le, drop-drop, drop_all, get_or-map, length-append, length-drop, length-set, length-take-le, take-append-drop, take_all}
use Rattle.std.proofs.lemmas.List.Elements.{Contains-append_right}
use Rattle.tagged_hash.specs.TaggedHash.{tagged_hash}
use Rattle.tagged_hash.specs.declared.tag.Tag.TheVariants.{Block}
use Rattle.share_layout.specs.Geometry.{Geometry, IsGeometry, block_size, segment_count, share_data_size}
use Rattle.share_layout.specs.Layout.{header_size, layout_of}
use Rattle.share_layout.specs.Pieces.{block_length}
use Rattle.share_layout.proofs.CutLemmas.{whole_segments}
use Rattle.share_verify.specs.Pieces.{block_hashes, joined}
use Rattle.sources.specs.Change.{DiffersFromFile}
use Rattle.sources.specs.Source.{Read, Reads}
use Rattle.block_making.specs.Making.{ArePut, HasBlocks, IsPieceOf, Making, WasRead, WereAllRead, WereRead, hashes_of, put_at}
use Rattle.block_making.proofs.BlockLists.{HaveSize, joined-halves, joined-set, length-front, size-set}
use Rattle.block_making.proofs.ReadRuns.{reads-append}
use Rattle.block_making.proofs.MadeBlocks.{begins_within, data_within, length-own, own, own_sizes}
use Rattle.block_making.proofs.PieceTexts.{piece-before, piece-behind, put-next}

module _ (m : Making) where
  abbrev g : Geometry
  g = m.geometry

  -- where the blocks stand
  abbrev pub header_end : ℕ
  header_end = header_size (layout_of g)

  abbrev pub front_of : List (List ℕ) → ℕ → List ℕ
  front_of blocks count = joined (take count blocks)

  -- the blocks below a number stand where the piece meets them
  pub record AreSoFar (offset : ℕ) (before after : List ℕ) (count : ℕ) : Type 0 where
    pub blocks : List (List ℕ)
    pub hashes : block_hashes blocks ≡ hashes_of m
    pub all : length blocks ≡ segment_count g
    pub sizes : HaveSize (block_size g) (share_data_size g) blocks
    pub same : length after ≡ length before
    pub put : (front text behind : List ℕ) → length front ≡ header_end → length text ≡ share_data_size g → IsPieceOf (front ++ text ++ behind) offset before
        → IsPieceOf (front ++ front_of blocks count ++ drop (length (front_of blocks count)) text ++ behind) offset after

  module _ (valid : IsGeometry g) (offset : ℕ) (before : List ℕ) where
    -- all blocks have the length of the data
    length-all : (blocks : List (List ℕ)) → length blocks ≡ segment_count g → HaveSize (block_size g) (share_data_size g) blocks → length (joined blocks) ≡ share_data_size g
    length-all blocks all sizes =
        ap (λ (l : List (List ℕ)). length (joined l)) (sym (take_all (length blocks) blocks (omega arith)))
        ∙ length-front (block_size g) (share_data_size g) blocks (length blocks) sizes (omega arith)
        ∙ (let low : share_data_size g ≤ length blocks * block_size g = subst (λ n. share_data_size g ≤ n * block_size g) (sym all) (data_within g valid) in omega (arith, low))

    -- the blocks up to a number are no longer than so many, and than the data
    front-short : (blocks : List (List ℕ)) (count : ℕ) → length blocks ≡ segment_count g → HaveSize (block_size g) (share_data_size g) blocks
        → (length (front_of blocks count) ≤ count * block_size g) × (length (front_of blocks count) ≤ share_data_size g)
    front-short blocks count all sizes =
        elim (cases_lt (length blocks) count) [
          | inl over ↦
              let whole : length (front_of blocks count) ≡ share_data_size g = ap (λ (l : List (List ℕ)). length (joined l)) (take_all count blocks (omega (arith, over))) ∙ length-all blocks all sizes in
              let times : segment_count g * block_size g ≤ count * block_size g = mul-le-mul_right {m = segment_count g} {n = count} (block_size g) (omega (arith, over, all)) in
              (omega (arith, whole, times, data_within g valid), omega (arith, whole))
          | inr low ↦ (let long = length-front (block_size g) (share_data_size g) blocks count sizes low in (omega (arith, long), omega (arith, long)))
        ]

    -- those before the first one that the piece meets
    pub so_far-none : (file : List ℕ) (first : ℕ) → HasBlocks m file → first ≡ (offset - header_end) / block_size g → AreSoFar offset before before first
    so_far-none file first is first_is =
        let blocks : List (List ℕ) = own m file in
        let all = length-own m file in
        let sizes = own_sizes m file valid is.long in
        let made : List ℕ = front_of blocks first in
        let size = front-short blocks first all sizes in
        let low : first * block_size g ≤ offset - header_end = subst (λ n. n * block_size g ≤ offset - header_end) (sym first_is) (div-mul-le_self (offset - header_end) (block_size g)) in
        record {
          blocks = blocks;
          hashes = sym is.hashes;
          all = all;
          sizes = sizes;
          same = refl;
          put = λ front text behind here long piece.
              elim (cases_lt 0 (length made)) [
                | inl some ↦
                    let old : List ℕ = take (length made) text in
                    let left : List ℕ = drop (length made) text in
                    let cut : length old ≡ length made = length-take-le (length made) text (omega (arith, size.1, long)) in
                    let split : front ++ text ++ behind ≡ front ++ old ++ (left ++ behind) =
                    ap (λ (t : List ℕ). front ++ t ++ behind) (sym (take-append-drop (length made) text))
                    ∙ ap (λ (t : List ℕ). t ++ behind) (sym (append_assoc front old left)) ∙ append_assoc (front ++ old) left behind in
                    let moved : IsPieceOf (front ++ made ++ (left ++ behind)) offset before =
                    piece-behind offset (front ++ old) (front ++ made) (left ++ behind) before
                    (length-append front old ∙ ap (λ n. length front + n) cut ∙ sym (length-append front made))
                    (omega (arith, length-append front old, cut, here, size.0, low, some))
                    (subst (λ (t : List ℕ). IsPieceOf t offset before) split piece) in
                    subst (λ (t : List ℕ). IsPieceOf t offset before) (sym (append_assoc (front ++ made) left behind)) moved
                | inr none ↦
                    let nothing : length made ≡ 0 = omega (arith, none) in
                    let empty : made ≡ [] = sym (take_all 0 made (omega (arith, nothing))) in
                    let same : front ++ text ++ behind ≡ front ++ made ++ drop (length made) text ++ behind =
                    (λ p. sym (append-nil front) p ++ text ++ behind) ∙ λ p. front ++ sym empty p ++ drop (sym nothing p) text ++ behind in
                    subst (λ (t : List ℕ). IsPieceOf t offset before) same piece
              ];
        }

    -- one block more
    pub so_far-more : (count : ℕ) (now next block : List ℕ) → AreSoFar offset before now count → count < segment_count g
        → length block ≡ block_length g count → tagged_hash Block block ≡ get_or (hashes_of m) count []
        → length next ≡ length now → next ≡ put_at (header_end + count * block_size g) block offset now → AreSoFar offset before next (count + 1)
    so_far-more count now next block far within size hash same is =
        let blocks : List (List ℕ) = far.blocks in
        let there : count < length blocks = omega (arith, within, far.all) in
        let made : List ℕ = front_of blocks count in
        let whole : ℕ = share_data_size g in
        let starts : length made ≡ count * block_size g =
        length-front (block_size g) whole blocks count far.sizes (omega (arith, there)) ∙ (let low = begins_within g valid count within in omega (arith, low)) in
        let one : length block ≡ length (get_or blocks count []) = size ∙ sym (far.sizes count there) in
        let kept : tagged_hash Block block ≡ tagged_hash Block (get_or blocks count []) =
        hash ∙ ap (λ (h : List (List ℕ)). get_or h count []) (sym far.hashes) ∙ get_or-map (tagged_hash Block) blocks count [] [] there in
        let more : front_of (set blocks count block) (count + 1) ≡ made ++ block = joined-set blocks count block there in
        record {
          blocks = set blocks count block;
          hashes = map-set_same (tagged_hash Block) blocks count block [] kept ∙ far.hashes;
          all = length-set blocks count block ∙ far.all;
          sizes = size-set (block_size g) whole blocks count block far.sizes one;
          same = same ∙ far.same;
          put = λ front text behind here long piece.
              let left : List ℕ = drop (length made) text in
              let before_next : IsPieceOf (front ++ made ++ (left ++ behind)) offset now =
              subst (λ (t : List ℕ). IsPieceOf t offset now) (append_assoc (front ++ made) left behind) (far.put front text behind here long piece) in
              let begin : length (front ++ made) ≡ header_end + count * block_size g = length-append front made ∙ (λ p. here p + starts p) in
              let put = put-next (header_end + count * block_size g) offset (front ++ made) (left ++ behind) block now next begin is same before_next in
              let low : length block ≤ length left = omega (arith, size, length-drop (length made) text, starts, long) in
              let total : length made + length block ≡ length (made ++ block) = sym (length-append made block) in
              let rest : drop (length block) (left ++ behind) ≡ drop (length (made ++ block)) text ++ behind =
              drop-append-le (length block) left behind low ∙ ap (λ (l : List ℕ). l ++ behind) (drop-drop (length block) (length made) text ∙ ap (λ n. drop n text) total) in
              let all : front ++ made ++ block ++ drop (length block) (left ++ behind)
              ≡ front ++ front_of (set blocks count block) (count + 1) ++ drop (length (front_of (set blocks count block) (count + 1))) text ++ behind =
              (λ p. append_assoc front made block p ++ rest p)
              ∙ sym (append_assoc (front ++ (made ++ block)) (drop (length (made ++ block)) text) behind)
              ∙ λ p. front ++ sym more p ++ drop (length (sym more p)) text ++ behind in
              subst (λ (t : List ℕ). IsPieceOf t offset next) all put;
        }

    -- those behind the last one that the piece meets
    pub so_far-all : (count end : ℕ) (now : List ℕ) → AreSoFar offset before now count → end ≡ offset + length before - header_end
        → min (div_ceil end (block_size g)) (segment_count g) ≤ count → 0 < block_size g → ArePut m offset before now
    so_far-all count end now far end_is over some =
        let blocks : List (List ℕ) = far.blocks in
        let made : List ℕ = front_of blocks count in
        let whole : length (joined blocks) ≡ share_data_size g = length-all blocks far.all far.sizes in
        record {
          blocks = blocks;
          hashes = far.hashes;
          size = whole;
          put = λ front text behind here long piece.
              elim (cases_lt count (segment_count g)) [
                | inr past ↦
                    let each : made ≡ joined blocks = ap joined (take_all count blocks (omega (arith, past, far.all))) in
                    let none : drop (length made) text ≡ [] = drop_all (length made) text (omega (arith, ap length each, whole, long)) in
                    let all : front ++ made ++ drop (length made) text ++ behind ≡ front ++ joined blocks ++ behind =
                    (λ p. front ++ each p ++ none p ++ behind) ∙ ap (λ (t : List ℕ). t ++ behind) (append-nil (front ++ joined blocks)) in
                    subst (λ (t : List ℕ). IsPieceOf t offset now) all (far.put front text behind here long piece)
                | inl within ↦
                    let starts : length made ≡ count * block_size g =
                    length-front (block_size g) (share_data_size g) blocks count far.sizes (omega (arith, within, far.all)) ∙ (let low = begins_within g valid count within in omega (arith, low)) in
                    let times : div_ceil end (block_size g) * block_size g ≤ count * block_size g = mul-le-mul_right {m = div_ceil end (block_size g)} {n = count} (block_size g) (omega (arith, over, within)) in
                    let past : offset + length now ≤ length (front ++ made) =
                    omega (arith, length-append front made, here, starts, times, (div_ceil_times end (block_size g) some).0, end_is, far.same) in
                    let left : List ℕ = drop (length made) text in
                    let moved : IsPieceOf (front ++ made ++ (joined (drop count blocks) ++ behind)) offset now =
                    piece-before offset (front ++ made) (left ++ behind) (joined (drop count blocks) ++ behind) now past
                    (subst (λ (t : List ℕ). IsPieceOf t offset now) (append_assoc (front ++ made) left behind) (far.put front text behind here long piece)) in
                    let all : front ++ made ++ (joined (drop count blocks) ++ behind) ≡ front ++ joined blocks ++ behind =
                    sym (append_assoc (front ++ made) (joined (drop count blocks)) behind)
                    ∙ ap (λ (t : List ℕ). t ++ behind) (append_assoc front made (joined (drop count blocks)) ∙ ap (λ (t : List ℕ). front ++ t) (joined-halves blocks count)) in
                    subst (λ (t : List ℕ). IsPieceOf t offset now) all moved
              ];
        }

-- ---- what is read for them

-- one segment more
all-read-more : {S : Type 0} (gives : S → ℕ → List ℕ → S → Type 0) (h : Geometry) (numbers : List ℕ) (old now next : S) (first count : ℕ)
    → WereAllRead gives old h first numbers count now → WasRead gives now h count next → WereAllRead gives old h first (numbers ++ count ∷ []) (count + 1) next
all-read-more gives h [] old now next first count far was =
    (far.0, (next, subst (λ s. WasRead gives s h count next) far.1 was, ((let e : count + 1 ≤ count + 1 = omega arith in e), refl)))
all-read-more gives h (n ∷ ns) old now next first count far was = (far.0, (far.1.0, far.1.1, all-read-more gives h ns far.1.0 now next (n + 1) count far.1.2 was))

-- none but those
all-read-same : {S : Type 0} (gives : S → ℕ → List ℕ → S → Type 0) (h : Geometry) (numbers : List ℕ) (old now next : S) (first count : ℕ)
    → WereAllRead gives old h first numbers count now → next ≡ now → WereAllRead gives old h first numbers (count + 1) next
all-read-same gives h [] old now next first count far same = (omega (arith, far.0), same ∙ far.1)
all-read-same gives h (n ∷ ns) old now next first count far same = (far.0, (far.1.0, far.1.1, all-read-same gives h ns far.1.0 now next (n + 1) count far.1.2 same))

module _ {S : Type 0} (gives : S → ℕ → List ℕ → S → Type 0) (sized failed : S → ℕ) (old : S) (g : Geometry) where
  -- segments from the first one on were read up to this one
  pub record AreReadTo (first end count : ℕ) (now : S) : Type 0 where
    pub within : first < count → count ≤ end
    pub numbers : List ℕ
    pub read : WereAllRead gives old g first numbers count now
    pub reads : List Read
    pub run : Reads gives old reads now
    pub size_is : sized now ≡ sized old
    pub failures_are : failed now ≡ failed old

  pub read-none : (first end : ℕ) → AreReadTo first end first old
  read-none first end = record {
    within = λ l. absurd (omega (arith, l));
    numbers = [];
    read = ((let e : first ≤ first = omega arith in e), refl);
    reads = [];
    run = refl;
    size_is = refl;
    failures_are = refl;
  }

  pub read-more : (first end count : ℕ) (now next : S) → count < end → AreReadTo first end count now → (next ≡ now) ⊎ WasRead gives now g count next
      → sized next ≡ sized now → failed next ≡ failed now → AreReadTo first end (count + 1) next
  read-more first end count now next low far (inl same) sizes fails = record {
    within = λ _. omega (arith, low);
    numbers = far.numbers;
    read = all-read-same gives g far.numbers old now next first count far.read same;
    reads = far.reads;
    run = subst (Reads gives old far.reads) (sym same) far.run;
    size_is = sizes ∙ far.size_is;
    failures_are = fails ∙ far.failures_are;
  }
  read-more first end count now next low far (inr was) sizes fails = record {
    within = λ _. omega (arith, low);
    numbers = far.numbers ++ count ∷ [];
    read = all-read-more gives g far.numbers old now next first count far.read was;
    reads = far.reads ++ was.read.reads;
    run = reads-append gives far.reads was.read.reads old now next far.run was.read.run;
    size_is = sizes ∙ far.size_is;
    failures_are = fails ∙ far.failures_are;
  }

  -- none but those that the piece meets
  pub were_read : (offset length_of first last end count : ℕ) (now : S) → 0 < block_size g → first ≡ (offset - header_size (layout_of g)) / block_size g
      → last ≡ offset + length_of - header_size (layout_of g) → end ≡ min (div_ceil last (block_size g)) (segment_count g) → AreReadTo first end count now
      → WereRead gives old g offset length_of now
  were_read offset length_of first last end count now some first_is last_is end_is far = record {
    first = first;
    end = count;
    numbers = far.numbers;
    read = far.read;
    met = λ number low high.
        let begin : ℕ = offset - header_size (layout_of g) in
        let next : begin < begin / block_size g * block_size g + block_size g = lt-div-mul-add some in
        let times : begin / block_size g * block_size g ≤ number * block_size g = mul-le-mul_right {m = begin / block_size g} {n = number} (block_size g) (omega (arith, low, first_is)) in
        let inside : number < div_ceil last (block_size g) = omega (arith, end_is, far.within (omega (arith, low, high)), high) in
        (omega (arith, next, times), omega (arith, whole_segments last (block_size g) number some inside, last_is));
  }

module _ {S : Type 0} (gives : S → ℕ → List ℕ → S → Type 0) where
  -- other bytes than a file's, behind what was read before
  pub differs-later : (old mid new : S) (before : List Read) (file : List ℕ) → Reads gives old before mid → DiffersFromFile gives mid file new
      → DiffersFromFile gives old file new
  differs-later old mid new before file run other = record {
    reads = before ++ other.reads;
    run = reads-append gives before other.reads old mid new run other.run;
    changed =
        elim other.changed [
          | inl brought ↦ inl record {
            read = brought.read;
            among = Contains-append_right before other.reads brought.read brought.among;
            other = brought.other;
          }
          | inr ended ↦ inr record {
            read = ended.read;
            among = Contains-append_right before other.reads ended.read ended.among;
            none = ended.none;
            early = ended.early;
          }
        ];
  }
