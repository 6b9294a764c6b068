-- The pieces that were given of a file, from its first byte to its last, are the file.
use Rattle.std.proofs.Common.{◌≡◌, ℕ, ◌+◌, ◌-◌, ◌*◌, ◌<◌, ◌≤◌, inl, inr, All, Contains, List, [], ◌∷◌, ◌++◌, length, take, drop, get_or, Some, ap, sym, subst, ◌∙◌, arith}
use Rattle.std.proofs.lemmas.Bool.{cases_lt}
use Rattle.std.proofs.lemmas.Grind.{div_ceil_times}
use Rattle.std.proofs.lemmas.List.{get_or-map, length-map, take_all}
use Rattle.std.proofs.lemmas.List.Elements.{All-contains, All-head, All-tail}
use Rattle.std.proofs.lemmas.Nat.{same_from_place}
use Rattle.proved_parts.proofs.Files.{length-pieces}
use Rattle.lemmas.proofs.Members.{contains_cases, contains_none}
use Rattle.aes_ctr.specs.CounterMode.{xored_from}
use Rattle.aes_ctr.proofs.StreamLemmas.{length-xored_from, xored_from-append}
use Rattle.tagged_hash.specs.TaggedHash.{tagged_hash}
use Rattle.tagged_hash.specs.declared.tag.Tag.TheVariants.{CiphertextSegment}
use Rattle.merkle.specs.Partial.{PartialState}
use Rattle.merkle.specs.Tree.{tree_root}
use Rattle.merkle.proofs.RootLemmas.{known-root}
use Rattle.ueb.specs.Shape.{Contents}
use Rattle.request_record.specs.declared.requests.Request.{Request}
use Rattle.share_layout.specs.Geometry.{Geometry, IsGeometry, segment_count}
use Rattle.share_layout.specs.Pieces.{segment_at, segment_length, segments_of}
use Rattle.share_layout.proofs.CutLemmas.{piece_at, whole_segments}
use Rattle.share_verify.specs.CapBlock.{geometry_by}
use Rattle.proved_parts.specs.FileOf.{segment_hashes}
use Rattle.download_parts.specs.Trees.{known_leaf}
use Rattle.download_segments.specs.Decoding.{AreShareNumbers, blocks_in}
use Rattle.download_segments.specs.Pieces.{AreConsecutive}
use Rattle.download_segments.specs.declared.piece.Piece.{Piece}
use Rattle.download_segments.proofs.DecodingLemmas.{unique}
use Rattle.download_segments.proofs.PieceLemmas.{taken_within}
use Rattle.download_segments.specs.GroupState.{GroupState}
use Rattle.download_file.specs.State.{FileState}
use Rattle.download_file.specs.Answers.{IsGivenBy, IsMade, IsMadeSegment, blocks_of}
use Rattle.download_file.specs.Right as right
use Rattle.download_file.specs.Right.{IsFile, IsGroup, made_end}
use Rattle.download_file.specs.Whole.{SegmentsAreMadeOnce, WholeFiles, joined}
use Rattle.download_file.proofs.EvidenceLemmas.{groups_within}
use Rattle.download_file.proofs.GivenLemmas.{segment_there}
use Rattle.download_file.proofs.TextLemmas.{part_of_part, parts_joined, whole_text}

-- ---- a segment is made once

-- of groups that follow one another, one has a segment
one_group : (from end : ℕ) (groups : List GroupState) (g h : GroupState) (n : ℕ) → right.AreConsecutive from groups end → Contains groups g → Contains groups h
    → g.first ≤ n → n < g.end → h.first ≤ n → n < h.end → g ≡ h
one_group from end [] g h n follow in_g in_h from_g to_g from_h to_h = absurd (contains_none g in_g)
one_group from end (x ∷ xs) g h n follow in_g in_h from_g to_g from_h to_h = elim (contains_cases x g xs in_g) [
  | inl is_g ↦ elim (contains_cases x h xs in_h) [
    | inl is_h ↦ sym is_g ∙ is_h
    | inr more_h ↦
        let behind = (groups_within x.end end xs h follow.2 more_h).1 in
        let same : x.end ≡ g.end = ap (λ (y : GroupState). y.end) is_g in
        absurd (omega (arith, behind, same, to_g, from_h))
  ]
  | inr more_g ↦ elim (contains_cases x h xs in_h) [
    | inl is_h ↦
        let behind = (groups_within x.end end xs g follow.2 more_g).1 in
        let same : x.end ≡ h.end = ap (λ (y : GroupState). y.end) is_h in
        absurd (omega (arith, behind, same, to_h, from_g))
    | inr more_h ↦ one_group x.end end xs g h n follow.2 more_g more_h from_g to_g from_h to_h
  ]
]

module _ (entries : List Request) (f : FileState) (is : IsFile f) where
  -- a group makes one thing of a segment
  one_made : (g h : GroupState) (number : ℕ) → Contains f.groups g → g ≡ h → (m : IsMade entries f.handout f.readers g number) (n : IsMade entries f.handout f.readers h number)
      → m.segment ≡ n.segment
  one_made g h number among same m = subst (λ (x : GroupState). (n : IsMade entries f.handout f.readers x number) → m.segment ≡ n.segment) same (λ n.
      let own : IsGroup f.handout f.readers g = All-contains (IsGroup f.handout f.readers) f.groups g is.groups among in
      let shares : AreShareNumbers f.handout.geometry g.decoding.numbers = subst (λ (x : Geometry). AreShareNumbers x g.decoding.numbers) own.geometry own.decoding in
      unique f.handout.geometry g.decoding.numbers (blocks_in f.handout.geometry number (blocks_of entries f.readers number g.readers)) number m.segment n.segment is.range.valid shares m.decodes n.decodes)

  pub made_once : (number : ℕ) (s t : List ℕ) → IsMadeSegment entries f number s → IsMadeSegment entries f number t → s ≡ t
  made_once number s t m n =
      let same : m.group ≡ n.group = one_group f.first (made_end f) f.groups m.group n.group number is.in_order m.among n.among m.from m.before n.from n.before in
      sym m.is ∙ one_made m.group n.group number m.among same m.made n.made ∙ n.is

  -- ---- the segments of pieces that follow one another

  abbrev u : Contents
  u = f.handout.ueb

  valid : IsGeometry (geometry_by u)
  valid = subst IsGeometry is.handout.geometry is.range.valid

  length-made : (number : ℕ) (s : List ℕ) → IsMadeSegment entries f number s → length s ≡ segment_length (geometry_by u) number
  length-made number s m = sym (ap length m.is) ∙ m.made.proved.size ∙ ap (λ (g : Geometry). segment_length g number) is.handout.geometry

  -- a piece with the first byte of a segment is of that segment
  segment_of : (p : Piece) (g : IsGivenBy entries f p) (number : ℕ) → p.offset ≤ number * u.segment_size → number * u.segment_size < p.offset + length p.bytes → g.number ≡ number
  segment_of p g number low high =
      let long = length-made g.number g.segment g.made in
      let at = g.slice.offset_is in
      let fits = g.slice.long in
      let some = valid.some_segment in
      (same_from_place g.number (g.slice.skipped + (number * u.segment_size - p.offset)) number 0 u.segment_size
      (omega (arith, long, fits, high, low)) some (omega (arith, at, low))).0

  -- there is the segment of a piece
  number_there : (p : Piece) (g : IsGivenBy entries f p) → g.number < segment_count (geometry_by u)
  number_there p g = subst (λ (x : Geometry). g.number < segment_count x) is.handout.geometry (segment_there f g.made.group g.number is g.made.among g.made.before)

  -- one of the pieces has the byte at this offset
  record HasPosition (position : ℕ) : Type 0 where
    piece : Piece
    given : IsGivenBy entries f piece
    from : piece.offset ≤ position
    before : position < piece.offset + length piece.bytes

  has_position : (pieces : List Piece) (from end position : ℕ) → AreConsecutive from pieces end → All (IsGivenBy entries f) pieces → from ≤ position → position < end → HasPosition position
  has_position [] from end position follow given low high = absurd (omega (arith, follow, low, high))
  has_position (p ∷ ps) from end position follow given low high =
      let at = follow.0 in
      elim (cases_lt position (from + length p.bytes)) [
        | inl here ↦ record { piece = p; given = All-head (IsGivenBy entries f) p ps given; from = omega (arith, at, low); before = omega (arith, at, here) }
        | inr behind ↦ has_position ps (from + length p.bytes) end position follow.2 (All-tail (IsGivenBy entries f) p ps given) behind high
      ]

  -- ---- their ciphertext

  module _ (pieces : List Piece) (given : All (IsGivenBy entries f) pieces) (follow : AreConsecutive 0 pieces u.size) where
    begins : (number : ℕ) → number < segment_count (geometry_by u) → number * u.segment_size < u.size
    begins number there = whole_segments u.size u.segment_size number valid.some_segment there

    was_made : (number : ℕ) → number < segment_count (geometry_by u) → (s : List ℕ) × IsMadeSegment entries f number s
    was_made number there =
        let p = has_position pieces 0 u.size (number * u.segment_size) follow given (omega arith) (begins number there) in
        (p.given.segment, subst (λ (n : ℕ). IsMadeSegment entries f n p.given.segment) (segment_of p.piece p.given number p.from p.before) p.given.made)

    cut : (text : List ℕ) × (length text ≡ u.size) × ((number : ℕ) → number < segment_count (geometry_by u) → IsMadeSegment entries f number (take u.segment_size (drop (number * u.segment_size) text)))
    cut = whole_text (IsMadeSegment entries f) u.size u.segment_size (segment_count (geometry_by u)) length-made begins was_made
        (let most = div_ceil_times u.size u.segment_size valid.some_segment in most.0)

  -- ---- the root over a ciphertext whose segments were made

  module _ (text : List ℕ) (made : (number : ℕ) → number < segment_count (geometry_by u) → IsMadeSegment entries f number (segment_at (geometry_by u) number text)) where
    abbrev tree : PartialState
    tree = f.handout.trees.ciphertext

    abbrev segments : List (List ℕ)
    segments = segments_of (geometry_by u) text

    as_many : length segments ≡ segment_count (geometry_by u)
    as_many = length-pieces (segment_count (geometry_by u)) u.segment_size text

    leaves_long : length (segment_hashes segments) ≡ segment_count (geometry_by u)
    leaves_long = length-map segments (tagged_hash CiphertextSegment) ∙ as_many

    leaf_count : tree.leaf_count ≡ segment_count (geometry_by u)
    leaf_count = is.handout.trees.ciphertext.leaves ∙ ap segment_count (is.handout.roots.geometry ∙ is.handout.geometry)

    leaf_known : (leaf : ℕ) → leaf < length (segment_hashes segments) → known_leaf tree leaf ≡ Some (get_or (segment_hashes segments) leaf [])
    leaf_known leaf low =
        let there : leaf < segment_count (geometry_by u) = omega (arith, low, leaves_long) in
        let m = made leaf there in
        let own : get_or segments leaf [] ≡ segment_at (geometry_by u) leaf text = piece_at (segment_count (geometry_by u)) u.segment_size leaf text there in
        m.made.proved.known
        ∙ ap (λ (s : List ℕ). Some (tagged_hash CiphertextSegment s)) (m.is ∙ sym own)
        ∙ ap Some (sym (get_or-map (tagged_hash CiphertextSegment) segments leaf [] [] (omega (arith, there, as_many))))

    root_is : tree_root (segment_hashes segments) ≡ u.crypttext_root_hash
    root_is = known-root tree (segment_hashes segments) is.handout.trees.ciphertext.sound (leaves_long ∙ sym leaf_count) leaf_known ∙ is.handout.roots.ciphertext

    -- ---- the pieces are parts of it, decrypted

    module _ (p : Piece) (g : IsGivenBy entries f p) (there : g.number < segment_count (geometry_by u)) where
      part_is : take (length p.bytes) (drop g.slice.skipped g.segment) ≡ take (length p.bytes) (drop p.offset text)
      part_is =
          let long = length-made g.number g.segment g.made in
          let fits = g.slice.long in
          ap (λ (s : List ℕ). take (length p.bytes) (drop g.slice.skipped s)) (made_once g.number g.segment (segment_at (geometry_by u) g.number text) g.made (made g.number there))
          ∙ part_of_part text (g.number * u.segment_size) u.segment_size g.slice.skipped (length p.bytes) (omega (arith, long, fits))
          ∙ ap (λ (n : ℕ). take (length p.bytes) (drop n text)) (sym g.slice.offset_is)

      bytes_are : p.bytes ≡ xored_from f.handout.key p.offset (take (length p.bytes) (drop p.offset text))
      bytes_are = g.slice.bytes_are ∙ ap (xored_from f.handout.key p.offset) part_is

      part_long : length (take (length p.bytes) (drop p.offset text)) ≡ length p.bytes
      part_long = sym (length-xored_from f.handout.key p.offset (take (length p.bytes) (drop p.offset text))) ∙ sym (ap length bytes_are)

    joined_are : (pieces : List Piece) (from end : ℕ) → AreConsecutive from pieces end → All (IsGivenBy entries f) pieces
        → joined pieces ≡ xored_from f.handout.key from (take (end - from) (drop from text))
    joined_are [] from end follow given = let none : end - from ≡ 0 = omega (arith, follow) in ap (λ (n : ℕ). xored_from f.handout.key from (take n (drop from text))) (sym none)
    joined_are (p ∷ ps) from end follow given =
        let g = All-head (IsGivenBy entries f) p ps given in
        let n : ℕ = length p.bytes in
        let at : p.offset ≡ from = follow.0 in
        let upto : from + n ≤ end = subst (λ (k : ℕ). k + n ≤ end) at (taken_within from p ps end follow) in
        let there : g.number < segment_count (geometry_by u) = number_there p g in
        let own : p.bytes ≡ xored_from f.handout.key from (take n (drop from text)) = subst (λ (k : ℕ). p.bytes ≡ xored_from f.handout.key k (take n (drop k text))) at (bytes_are p g there) in
        let long : length (take n (drop from text)) ≡ n = subst (λ (k : ℕ). length (take n (drop k text)) ≡ n) at (part_long p g there) in
        let rest : joined ps ≡ xored_from f.handout.key (from + n) (take (end - (from + n)) (drop (from + n) text)) =
        joined_are ps (from + n) end follow.2 (All-tail (IsGivenBy entries f) p ps given) in
        let behind : from + n ≡ from + length (take n (drop from text)) = omega (arith, long) in
        let sum : n + (end - (from + n)) ≡ end - from = omega (arith, upto) in
        ap (λ (l : List ℕ). l ++ joined ps) own
        ∙ ap (λ (l : List ℕ). xored_from f.handout.key from (take n (drop from text)) ++ l)
        (rest ∙ ap (λ (k : ℕ). xored_from f.handout.key k (take (end - (from + n)) (drop (from + n) text))) behind)
        ∙ sym (xored_from-append f.handout.key from (take n (drop from text)) (take (end - (from + n)) (drop (from + n) text)))
        ∙ ap (xored_from f.handout.key from) (parts_joined text from n (end - (from + n)) ∙ ap (λ (k : ℕ). take k (drop from text)) sum)

pub whole_files : WholeFiles
whole_files entries f pieces is given follow =
    let c = cut entries f is pieces given follow in
    let all : take (f.handout.ueb.size - 0) c.0 ≡ c.0 = take_all (f.handout.ueb.size - 0) c.0 (let long = c.1 in omega (arith, long)) in
    record {
      ciphertext = c.0;
      of_file = record { size = c.1; made = c.2; root = root_is entries f is c.0 c.2 };
      decrypted = joined_are entries f is c.0 c.2 pieces 0 f.handout.ueb.size follow given ∙ ap (xored_from f.handout.key 0) all;
    }

pub segments_are_made_once : SegmentsAreMadeOnce
segments_are_made_once entries f number s t is = made_once entries f is number s t
