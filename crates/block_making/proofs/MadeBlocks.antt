-- Blocks that are made again, beside those of a file.
use Rattle.std.proofs.Common.{Bool, true, not, eqb, ◌≡◌, ℕ, ◌+◌, ◌-◌, ◌*◌, ◌/◌, ◌<◌, ◌≤◌, List, [], ◌++◌, length, take, drop, get_or, replicate, Result, Err, refl, inl, inr, ap, sym, subst, ◌∙◌, arith}
use Rattle.std.specs.Int.{div_ceil}
use Rattle.std.specs.Prelude.{◌≢◌, IsErrOf}
use Rattle.std.specs.Cmp.Lexicographic.{pointwise}
use Rattle.std.specs.Result.{IsErrAnd}
use Rattle.std.proofs.Math.Nat.{div-mul_cancel, mul-div_cancel, dvd_of_mod-eq-zero, mul-le-mul_right, mul_assoc}
use Rattle.std.proofs.lemmas.Bool.{cases_lt, false≢true}
use Rattle.std.proofs.lemmas.Bool.Decides.{Decides-eqb}
use Rattle.std.proofs.lemmas.Slice.Eq.{slice_eq-Decides}
use Rattle.std.proofs.lemmas.Grind.{div_ceil_times}
use Rattle.std.proofs.lemmas.List.{get_or-map, length-append, length-drop, length-map, length-take, length-take-le, take_all, take_at}
use Rattle.tagged_hash.specs.TaggedHash.{tagged_hash}
use Rattle.tagged_hash.specs.declared.tag.Tag.TheVariants.{Block}
use Rattle.ueb.specs.Shape.{rounded_up}
use Rattle.share_layout.specs.Geometry.{Geometry, IsGeometry, block_size, segment_count, share_data_size}
use Rattle.share_layout.specs.Pieces.{block_length, segment_at, segment_length, segments_of}
use Rattle.share_layout.proofs.CutLemmas.{cut_lengths, piece_at, whole_segments}
use Rattle.file_encoding.specs.Encoding.{block_of, blocks_of, padded_segment}
use Rattle.zfec_code.specs.ShareValue.{share_block}
use Rattle.file_encoding.proofs.OwnBlocks.{div_ceil_within, length-block}
use Rattle.share_verify.proofs.ChunkLemmas.{length-first_chunks, pieces_are_chunks}
use Rattle.std.proofs.lemmas.Result.{err_from_is_err_and}
use Rattle.sources.specs.declared.error.PartFault.{PartFault}
use Rattle.sources.specs.declared.error.PartFault.TheVariants.{Ended, Unreadable}
use Rattle.block_making.specs.PieceError.{piece_error_of}
use Rattle.block_making.specs.declared.error.PieceError.{PieceError}
use Rattle.block_making.specs.declared.error.PieceError.TheVariants.{SourceChanged}
use Rattle.sources.proofs.PartReading.{err-again}
use Rattle.sources.specs.Source.{IsRead}
use Rattle.sources.specs.Change.{DiffersFromFile}
use Rattle.block_making.specs.Making.{HasBlock, HasBlocks, IsSegmentRead, Making, ciphertext_from, hashes_of}
use Rattle.block_making.proofs.BlockLists.{HaveSize}
use Rattle.block_making.proofs.Streams.{drop-ciphertext, length-ciphertext, take-ciphertext}
use Rattle.block_making.proofs.OtherBytes.{other-differs}

-- ---- the blocks of a file

length-segments : (g : Geometry) (text : List ℕ) → length (segments_of g text) ≡ segment_count g
length-segments g text = ap length (pieces_are_chunks (segment_count g) g.segment_size text) ∙ length-first_chunks g.segment_size (segment_count g) text

module _ (m : Making) (file : List ℕ) where
  abbrev g : Geometry
  g = m.geometry

  abbrev ciphertext : List ℕ
  ciphertext = ciphertext_from m.key 0 file

  abbrev pub own : List (List ℕ)
  own = blocks_of g.needed m.share (segments_of g ciphertext)

  pub length-own : length own ≡ segment_count g
  length-own = length-map (segments_of g ciphertext) (block_of g.needed m.share) ∙ length-segments g ciphertext

  own_at : (number : ℕ) → number < segment_count g → get_or own number [] ≡ block_of g.needed m.share (segment_at g number ciphertext)
  own_at number within =
      get_or-map (block_of g.needed m.share) (segments_of g ciphertext) number [] [] (omega (arith, within, length-segments g ciphertext))
      ∙ ap (block_of g.needed m.share) (piece_at (segment_count g) g.segment_size number ciphertext within)

  -- each of them has the hash that is kept of it
  pub has_block : (number : ℕ) → number < segment_count g → HasBlocks m file → HasBlock m number file
  has_block number within is = record {
    long = is.long;
    hash = ap (tagged_hash Block) (sym (own_at number within))
        ∙ sym (get_or-map (tagged_hash Block) own number [] [] (omega (arith, within, length-own)))
        ∙ ap (λ (h : List (List ℕ)). get_or h number []) (sym is.hashes);
  }

  -- and its length
  pub own_sizes : IsGeometry g → length file ≡ g.size → HaveSize (block_size g) (share_data_size g) own
  own_sizes valid long number inside =
      let within : number < segment_count g = omega (arith, inside, length-own) in
      let whole : length ciphertext ≡ g.size = length-ciphertext m.key 0 file ∙ long in
      let size : length (segment_at g number ciphertext) ≡ segment_length g number =
      length-take g.segment_size (drop (number * g.segment_size) ciphertext)
      ∙ omega (arith, length-drop (number * g.segment_size) ciphertext, whole) in
      ap length (own_at number within) ∙ length-block 0 g.needed m.share valid.some_needed (segment_at g number ciphertext)
      ∙ ap (λ n. div_ceil n g.needed) size ∙ sym (cut_lengths g number valid within).shared

-- ---- how long they are together

module _ (g : Geometry) (valid : IsGeometry g) where
  whole : block_size g * g.needed ≡ g.segment_size
  whole = div-mul_cancel g.needed (dvd_of_mod-eq-zero g.needed valid.multiple)

  -- all blocks are no less than the data
  pub data_within : share_data_size g ≤ segment_count g * block_size g
  data_within =
      let over = (div_ceil_times g.size g.segment_size valid.some_segment).0 in
      let times : segment_count g * block_size g * g.needed ≡ segment_count g * g.segment_size = mul_assoc (segment_count g) (block_size g) g.needed ∙ ap (λ n. segment_count g * n) whole in
      div_ceil_within (segment_count g * block_size g) g.needed 0 valid.some_needed g.size (omega (arith, over, times))

  -- the block of each segment begins before their end
  pub begins_within : (number : ℕ) → number < segment_count g → number * block_size g < share_data_size g
  begins_within number within =
      elim (cases_lt (number * block_size g) (share_data_size g)) [
        | inl low ↦ low
        | inr high ↦
            let times : number * block_size g * g.needed ≡ number * g.segment_size = mul_assoc number (block_size g) g.needed ∙ ap (λ n. number * n) whole in
            absurd (omega (
              arith,
              whole_segments g.size g.segment_size number valid.some_segment within,
              (div_ceil_times g.size g.needed valid.some_needed).0,
              mul-le-mul_right {m = share_data_size g} {n = number * block_size g} g.needed high,
              times,
            ))
      ]

-- ---- a block of what a source brought

module _ {S : Type 0} (gives : S → ℕ → List ℕ → S → Type 0) (m : Making) (number : ℕ) where
  abbrev offset : ℕ
  offset = number * m.geometry.segment_size

  -- a segment whose block has another hash is not the file's
  pub block_differs : (old new : S) (segment file : List ℕ) → length segment ≡ segment_length m.geometry number → IsRead gives old offset segment new
      → tagged_hash Block (block_of m.geometry.needed m.share (ciphertext_from m.key offset segment)) ≢ get_or (hashes_of m) number []
      → HasBlock m number file → DiffersFromFile gives old file new
  block_differs old new segment file long read apart is =
      let part : List ℕ = drop offset file in
      let size : length (take m.geometry.segment_size part) ≡ length segment =
      length-take m.geometry.segment_size part ∙ omega (arith, length-drop offset file, is.long, long) in
      other-differs gives old new offset segment file read (λ e.
      let cut : take (length segment) part ≡ take m.geometry.segment_size part =
      elim (cases_lt (length part) m.geometry.segment_size) [
        | inl short ↦ take_all (length segment) part (omega (arith, size, length-take m.geometry.segment_size part)) ∙ sym (take_all m.geometry.segment_size part (omega (arith, short)))
        | inr enough ↦ (let same : length segment ≡ m.geometry.segment_size = omega (arith, size, length-take m.geometry.segment_size part) in ap (λ n. take n part) same)
      ] in
      let encrypted : ciphertext_from m.key offset segment ≡ segment_at m.geometry number (ciphertext_from m.key 0 file) =
      ap (ciphertext_from m.key offset) (e ∙ cut)
      ∙ sym (take-ciphertext m.key m.geometry.segment_size offset part)
      ∙ ap (take m.geometry.segment_size) (sym (drop-ciphertext m.key offset 0 file ∙ (let zero : 0 + offset ≡ offset = omega arith in ap (λ p. ciphertext_from m.key p part) zero))) in
      apart (ap (λ (s : List ℕ). tagged_hash Block (block_of m.geometry.needed m.share s)) encrypted ∙ is.hash))

-- a segment begins before the end of its file, and does not reach behind it
pub begins-before : (g : Geometry) (number : ℕ) → IsGeometry g → number < segment_count g → number * g.segment_size < g.size
begins-before g number valid within =
    let over = (div_ceil_times g.size g.segment_size valid.some_segment).1 in
    let next : (number + 1) * g.segment_size ≤ segment_count g * g.segment_size = mul-le-mul_right {m = number + 1} {n = segment_count g} g.segment_size (omega arith) in
    omega (arith, over, next)

pub ends-within : (g : Geometry) (number offset len : ℕ) → IsGeometry g → number < segment_count g → offset ≡ number * g.segment_size → len ≡ segment_length g number
    → offset + len ≤ g.size
ends-within g number offset len valid within offset_is len_is = omega (arith, begins-before g number valid within, offset_is, len_is)

-- the room that a segment with its padding takes
pub record IsRoom (g : Geometry) (number room : ℕ) : Type 0 where
  pub within : segment_length g number ≤ room
  pub rounded : room ≡ rounded_up (segment_length g number) g.needed

pub is_room : (g : Geometry) (number room : ℕ) → IsGeometry g → number < segment_count g → room ≡ block_length g number * g.needed → IsRoom g number room
is_room g number room valid inside is =
    let rounded : room ≡ rounded_up (segment_length g number) g.needed = is ∙ ap (λ n. n * g.needed) (cut_lengths g number valid inside).shared in
    record { within = omega (arith, rounded, (div_ceil_times (segment_length g number) g.needed valid.some_needed).0); rounded = rounded }

-- a segment with its padding that stands where it was read
pub segment_read : {S : Type 0} (gives : S → ℕ → List ℕ → S → Type 0) (old new : S) (m : Making) (number offset len : ℕ) (padded segment : List ℕ) → number < segment_count m.geometry
    → IsRoom m.geometry number (length padded) → offset ≡ number * m.geometry.segment_size → len ≡ segment_length m.geometry number → length segment ≡ length (take len padded)
    → IsRead gives old offset segment new
    → IsSegmentRead gives old m number (ciphertext_from m.key offset (take len (segment ++ drop len padded)) ++ replicate (length (segment ++ drop len padded) - len) 0) new
segment_read gives old new m number offset len padded segment within room offset_is len_is long read =
    let enough : len ≤ length padded = omega (arith, room.within, len_is) in
    let size : length segment ≡ len = long ∙ length-take-le len padded enough in
    let front : take len (segment ++ drop len padded) ≡ segment = take_at segment (drop len padded) len size in
    let encrypted : length (ciphertext_from m.key offset segment) ≡ segment_length m.geometry number = length-ciphertext m.key offset segment ∙ size ∙ len_is in
    let rest : length (segment ++ drop len padded) - len ≡ rounded_up (length (ciphertext_from m.key offset segment)) m.geometry.needed - length (ciphertext_from m.key offset segment) =
    (let all : length (segment ++ drop len padded) ≡ length padded = omega (arith, length-append segment (drop len padded), length-drop len padded, size, enough) in
    (λ p. all p - len_is p) ∙ (λ p. room.rounded p - segment_length m.geometry number) ∙ λ p. rounded_up (sym encrypted p) m.geometry.needed - sym encrypted p) in
    record {
      was = record { segment = segment; long = size ∙ len_is; read = subst (λ p. IsRead gives old p segment new) offset_is read };
      padded_is = (λ p. ciphertext_from m.key offset (front p) ++ replicate (rest p) 0)
          ∙ ap (λ p. padded_segment m.geometry.needed (ciphertext_from m.key p segment)) offset_is;
    }

-- a part that ended is a changed source
pub ended_fault : {T U : Type 0} (r : Result T PieceError) (f : PartFault) → IsErrAnd r (λ e. e ≡ piece_error_of f) → IsErrOf r SourceChanged → IsErrOf {T = U} (Err f) Ended
ended_fault r Ended answered is = refl
ended_fault r Unreadable answered is = let p = err_from_is_err_and r answered in absurd (cc (p.1, p.2, is))

-- there is a hash for each segment
pub hash_count : (m : Making) (file : List ℕ) → HasBlocks m file → length (hashes_of m) ≡ segment_count m.geometry
hash_count m file is = ap length is.hashes ∙ length-map (own m file) (tagged_hash Block) ∙ length-own m file

-- what the code makes of a padded segment is its block
pub share_is : (k i size : ℕ) (segment padded : List ℕ) → 0 < k → length padded ≡ size * k → padded ≡ padded_segment k segment → share_block k i size padded ≡ block_of k i segment
share_is k i size segment padded some long same =
    let size_is : size ≡ length (padded_segment k segment) / k = sym (ap (λ n. n / k) (sym (ap length same) ∙ long) ∙ mul-div_cancel size some) in
    λ p. share_block k i (size_is p) (same p)

-- two hashes that the test tells apart
pub other_hash : (a b : List ℕ) (differ : Bool) → differ ≡ not (pointwise eqb a b) → differ ≡ true → a ≢ b
other_hash a b differ is holds same =
    let e : pointwise eqb a b ≡ true = (slice_eq-Decides {E = eqb} Decides-eqb a b (pointwise eqb a b) refl).1 same in
    false≢true (sym (is ∙ ap not e) ∙ holds)

-- an error that is passed on
pub same_error : {T U : Type 0} (r : Result T PieceError) (f x : PieceError) → IsErrAnd r (λ e. e ≡ f) → IsErrOf r x → IsErrOf {T = U} (Err f) x
same_error r f x answered is = let p = err_from_is_err_and r answered in err-again f x (subst (λ s. IsErrOf s x) (p.1 ∙ ap Err p.2) is)
