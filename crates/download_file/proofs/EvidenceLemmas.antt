-- What proves the segments that were made.
use Rattle.std.proofs.Common.{◌≡◌, ℕ, zero, suc, ◌+◌, ◌-◌, ◌*◌, ◌<◌, ◌≤◌, inl, inr, All, Contains, List, [], ◌∷◌, ◌++◌, length, map, take, drop, get_or, Option, Some, None, unwrap_or, refl, sym, ap, subst, ◌∙◌, arith, suc-mul}
use Rattle.std.specs.Prelude.{slice_get, slice_range}
use Rattle.std.specs.List.{flat_map, range_with_len}
use Rattle.std.proofs.lemmas.List.{length-append, length-drop, length-map, length-take-le}
use Rattle.std.proofs.lemmas.List.Elements.{All-contains, All-weaker}
use Rattle.lemmas.proofs.Members.{contains_head, contains_tail, contains_cases, contains_none}
use Rattle.request_record.specs.declared.requests.Request.{Request}
use Rattle.share_layout.specs.Geometry.{Geometry, IsGeometry}
use Rattle.share_layout.specs.Pieces.{block_length}
use Rattle.proved_parts.specs.Decoding.{DecodesBlocks}
use Rattle.proved_parts.specs.declared.evidence.EvidencePart.{EvidencePart}
use Rattle.download_supply.specs.Blocks.{IsHeld, block_end, block_first}
use Rattle.download_supply.specs.Supply.{IsSupply, SupplyState}
use Rattle.download_supply.proofs.LawLemmas.{joined_long}
use Rattle.download_supply.proofs.PlanLemmas.{block_order}
use Rattle.download_segments.specs.Decoding.{AreShareNumbers, blocks_in}
use Rattle.download_segments.specs.State.{HandoutState, ProvesSegment}
use Rattle.download_segments.proofs.DecodingLemmas.{unique}
use Rattle.download_segments.specs.GroupState.{GroupState, segments_in}
use Rattle.download_file.specs.State.{FileState, ReaderState, share_in}
use Rattle.download_file.specs.Answers.{AnsweredWith, IsMade, IsMadeSegment, IsRead, answer_at, block_in, block_of, blocks_of}
use Rattle.download_segments.specs.Handout.{next_segment}
use Rattle.download_file.specs.Parts.{AreMadeAmong, IsMadeAmong}
use Rattle.download_file.specs.Right.{AreConsecutive, IsFile, IsGroup, made_end}
use Rattle.download_file.specs.Steps.{AreOfFile, HasBlock, IsMadeGroup}
use Rattle.download_file.proofs.ListLemmas.{All-from_contains}
use Rattle.download_file.proofs.GrowLemmas.{HasAnswers, answer_is, has_answers, reader_there}

-- ---- numbers of segments

range_two : (a n m : ℕ) → range_with_len a n ++ range_with_len (a + n) m ≡ range_with_len a (n + m)
range_two a zero m = (λ i. range_with_len (one i) (two i))
  where
    one : a + 0 ≡ a
    one = omega arith

    two : m ≡ 0 + m
    two = omega arith
range_two a (suc n) m =
    let e : a + suc n ≡ a + 1 + n = omega arith in
    let k : range_with_len a (suc n + m) ≡ a ∷ range_with_len (a + 1) (n + m) = let s : suc n + m ≡ suc (n + m) = omega arith in ap (range_with_len a) s in
    ap (λ (b : ℕ). a ∷ (range_with_len (a + 1) n ++ range_with_len b m)) e ∙ ap (λ (l : List ℕ). a ∷ l) (range_two (a + 1) n m) ∙ sym k

consecutive_order : (from end : ℕ) (groups : List GroupState) → AreConsecutive from groups end → from ≤ end
consecutive_order from end [] is = omega (arith, is)
consecutive_order from end (g ∷ gs) is =
    let first = is.0 in
    let order = is.1 in
    let rest = consecutive_order g.end end gs is.2 in
    omega (arith, first, order, rest)

-- the segments of groups that follow one another
pub all_segments : (from end : ℕ) (groups : List GroupState) → AreConsecutive from groups end → flat_map segments_in groups ≡ range_with_len from (end - from)
all_segments from end [] is = let none : 0 ≡ end - from = omega (arith, is) in ap (range_with_len from) none
all_segments from end (g ∷ gs) is =
    let first = is.0 in
    let order = is.1 in
    let rest = consecutive_order g.end end gs is.2 in
    let at : g.end ≡ g.first + (g.end - g.first) = omega (arith, order) in
    ap (λ (l : List ℕ). segments_in g ++ l) (all_segments g.end end gs is.2 ∙ ap (λ (n : ℕ). range_with_len n (end - g.end)) at)
    ∙ range_two g.first (g.end - g.first) (end - g.end)
    ∙ (let e : g.end - g.first + (end - g.end) ≡ end - from = omega (arith, first, order, rest) in λ i. range_with_len (first i) (e i))

-- each group is within
pub groups_within : (from end : ℕ) (groups : List GroupState) (group : GroupState) → AreConsecutive from groups end → Contains groups group → (group.end ≤ end) × (from ≤ group.first) × (group.first ≤ group.end)
groups_within from end [] group is among = absurd (contains_none group among)
groups_within from end (g ∷ gs) group is among =
    let first = is.0 in
    let order = is.1 in
    elim (contains_cases g group gs among) [
      | inl e ↦
          let rest = consecutive_order g.end end gs is.2 in
          subst (λ (x : GroupState). (x.end ≤ end) × (from ≤ x.first) × (x.first ≤ x.end)) e (rest, omega (arith, first), order)
      | inr more ↦
          let k = groups_within g.end end gs group is.2 more in
          let begins = k.1 in
          (k.0, omega (arith, first, order, begins), k.2)
    ]

-- ---- the lengths of blocks

piece_at : (f : ℕ → List ℕ) (xs : List ℕ) (a n k : ℕ) → k < n → a + n ≤ length xs → get_or (map f (take n (drop a xs))) k [] ≡ f (get_or xs (a + k) 0)
piece_at f [] a n k low within = absurd (omega (arith, low, within))
piece_at f (x ∷ xs) zero (suc n) zero low within = refl
piece_at f (x ∷ xs) zero (suc n) (suc k) low within = piece_at f xs 0 n k (omega (arith, low)) (omega (arith, within)) ∙ (let e : 0 + k ≡ k = omega arith in let g : 0 + suc k ≡ suc k = omega arith in ap (λ (m : ℕ). f (get_or xs m 0)) e ∙ sym (ap (λ (m : ℕ). f (get_or (x ∷ xs) m 0)) g))
piece_at f (x ∷ xs) zero zero k low within = absurd (omega (arith, low))
piece_at f (x ∷ xs) (suc a) n k low within = piece_at f xs a n k low (omega (arith, within)) ∙ (let e : suc a + k ≡ suc (a + k) = omega arith in sym (ap (λ (m : ℕ). f (get_or (x ∷ xs) m 0)) e))

piece_long : (entries : List Request) (xs : List ℕ) (a n k : ℕ) → k < n → a + n ≤ length xs → (bytes : List ℕ) → AnsweredWith entries (get_or xs (a + k) 0) bytes
    → length (get_or (map (answer_at entries) (take n (drop a xs))) k []) ≡ length bytes
piece_long entries xs a n k low within bytes answered =
    ap length (piece_at (answer_at entries) xs a n k low within ∙ answer_is entries (get_or xs (a + k) 0) bytes answered)

pub block_long : (entries : List Request) (s : SupplyState) (number : ℕ) → IsSupply s → IsHeld s number → HasAnswers entries s
    → length (block_of entries s number) ≡ block_length s.geometry number
block_long entries s number is held holds =
    let a = block_first s.geometry s.first number in
    let b = block_end s.geometry s.first number in
    let within = held.pieces in
    let order : a ≤ b = block_order s.geometry s.first number in
    let f : ℕ → List ℕ = answer_at entries in
    let positions = slice_range s.held a b in
    let count : length (map f positions) ≡ b - a = length-map positions f ∙ length-take-le (b - a) (drop a s.held) (let long = length-drop a s.held in omega (arith, long, within)) in
    joined_long s.geometry s.first s.end number (map f positions) is.range held.within.from held.within.before count (λ k low.
    let there : a + k < length s.held = omega (arith, low, count, within, order) in
    let one = holds (a + k) there in
    piece_long entries s.held a (b - a) k (omega (arith, low, count)) (omega (arith, within, order)) one.0 one.1 ∙ one.2)

pub blocks_long : (entries : List Request) (g : Geometry) (readers : List ReaderState) (positions : List ℕ) (number : ℕ) → AreOfFile entries g readers
    → ((position : ℕ) → Contains positions position → (r : ReaderState) × (slice_get readers position ≡ Some r) × IsHeld r.supply number)
    → length (blocks_of entries readers number positions) ≡ length positions * block_length g number
blocks_long entries g readers [] number file each = omega arith
blocks_long entries g readers (p ∷ ps) number file each =
    let r = each p (contains_head p ps) in
    let one : length (block_in entries number (slice_get readers p)) ≡ block_length g number =
    ap (λ (o : Option ReaderState). length (block_in entries number o)) r.1
    ∙ block_long entries r.0.supply number (file.supply p r.0 r.1) r.2 (has_answers entries r.0 (file.held p r.0 r.1))
    ∙ ap (λ (h : Geometry). block_length h number) (file.geometry p r.0 r.1) in
    let rest = blocks_long entries g readers ps number file (λ q among. each q (contains_tail p q ps among)) in
    length-append (block_in entries number (slice_get readers p)) (blocks_of entries readers number ps)
    ∙ omega (arith, one, rest, suc-mul (length ps) (block_length g number))

-- ---- a segment of a group

module _ (entries : List Request) (h : HandoutState) (readers : List ReaderState) (group : GroupState) (number : ℕ)
    (right : IsGroup h readers group) (made : IsMade entries h readers group number) (file : AreOfFile entries h.geometry readers) where
  reader_of : (position : ℕ) → Contains group.readers position → (r : ReaderState) × (slice_get readers position ≡ Some r) × IsHeld r.supply number
  reader_of position among =
      let r = reader_there readers position (All-contains (λ p. p < length readers) group.readers position right.there among) in
      (r.0, r.1, (made.right position r.0 among r.1).ready.held)

  pub has_blocks : (size : ℕ) → size ≡ block_length h.geometry number → All (HasBlock readers number size) group.readers
  has_blocks size long = All-from_contains (HasBlock readers number size) group.readers (λ position among.
      let r = reader_of position among in
      record { r = r.0; there = r.1; held = r.2; long = long ∙ ap (λ (g : Geometry). block_length g number) (sym (file.geometry position r.0 r.1)) })

  pub as_many : length group.readers ≡ h.geometry.needed
  as_many = sym (length-map group.readers (λ position. share_in (slice_get readers position))) ∙ sym (ap length right.numbers) ∙ right.decoding.enough ∙ ap (λ (g : Geometry). g.needed) right.geometry

  pub long_enough : length (blocks_of entries readers number group.readers) ≡ h.geometry.needed * block_length h.geometry number
  long_enough = blocks_long entries h.geometry readers group.readers number file reader_of ∙ ap (λ (n : ℕ). n * block_length h.geometry number) as_many

  -- what is decoded again is what was made, and so it is proved
  pub decodes_again : IsGeometry h.geometry → (joined segment : List ℕ) → joined ≡ blocks_of entries readers number group.readers
      → DecodesBlocks group.decoding.geometry group.decoding.numbers (blocks_in group.decoding.geometry number joined) number segment → made.segment ≡ segment
  decodes_again valid joined segment same decodes =
      let one : DecodesBlocks h.geometry group.decoding.numbers (blocks_in h.geometry number (blocks_of entries readers number group.readers)) number segment =
      subst (λ (l : List ℕ). DecodesBlocks h.geometry group.decoding.numbers (blocks_in h.geometry number l) number segment) same
      (subst (λ (g : Geometry). DecodesBlocks g group.decoding.numbers (blocks_in g number joined) number segment) right.geometry decodes) in
      let shares : AreShareNumbers h.geometry group.decoding.numbers = subst (λ (g : Geometry). AreShareNumbers g group.decoding.numbers) right.geometry right.decoding in
      unique h.geometry group.decoding.numbers (blocks_in h.geometry number (blocks_of entries readers number group.readers)) number made.segment segment valid shares made.decodes one

  pub proves_again : IsGeometry h.geometry → (joined segment : List ℕ) → joined ≡ blocks_of entries readers number group.readers
      → DecodesBlocks group.decoding.geometry group.decoding.numbers (blocks_in group.decoding.geometry number joined) number segment → ProvesSegment h number segment
  proves_again valid joined segment same decodes = subst (ProvesSegment h number) (decodes_again valid joined segment same decodes) made.proved

-- ---- all that was made

-- the segments that were made are those before the next
pub made_within : (f : FileState) → IsFile f → made_end f ≤ f.end
made_within f is = by (next_segment f.handout) refl
  where
    by : (o : Option ℕ) → next_segment f.handout ≡ o → unwrap_or (next_segment f.handout) f.end ≤ f.end
    by None e = let same = ap (λ (o : Option ℕ). unwrap_or o f.end) e in omega (arith, same)
    by (Some n) e = let same = ap (λ (o : Option ℕ). unwrap_or o f.end) e in let low = (is.next n e).1 in omega (arith, same, low)

pub all_made : (entries : List Request) (f : FileState) → IsFile f → IsRead entries f → All (IsMadeGroup entries f.handout f.readers) f.groups
all_made entries f is read = All-from_contains (IsMadeGroup entries f.handout f.readers) f.groups (λ group among.
    let within = groups_within f.first (made_end f) f.groups group is.in_order among in
    let end = within.0 in
    let upto = made_within f is in
    let count = is.range.within in
    record {
      right = All-contains (IsGroup f.handout f.readers) f.groups group is.groups among;
      order = within.2;
      there = omega (arith, end, upto, count);
      made = λ number from before. read.made group number among from before;
    })

pub readers_of : (entries : List Request) (f : FileState) → IsFile f → IsRead entries f → AreOfFile entries f.handout.geometry f.readers
readers_of entries f is read = record {
  supply = λ position r at. (is.readers position r at).supply;
  geometry = λ position r at. (is.readers position r at).geometry;
  held = read.held;
}

-- segments that were made of blocks of the file's groups
pub made_segments : (entries : List Request) (f : FileState) (h : HandoutState) (readers : List ReaderState) (groups : List GroupState) (parts : List EvidencePart)
    → h ≡ f.handout → readers ≡ f.readers → groups ≡ f.groups → AreMadeAmong entries h readers groups parts → All (λ (p : EvidencePart). IsMadeSegment entries f p.number p.segment) parts
made_segments entries f h readers groups parts same_h same_readers same_groups made =
    let own : AreMadeAmong entries f.handout f.readers f.groups parts =
    subst (λ (g : List GroupState). AreMadeAmong entries f.handout f.readers g parts) same_groups
    (subst (λ (r : List ReaderState). AreMadeAmong entries f.handout r groups parts) same_readers
    (subst (λ (x : HandoutState). AreMadeAmong entries x readers groups parts) same_h made)) in
    All-weaker (λ (p : EvidencePart). IsMadeAmong entries f.handout f.readers f.groups p.number p.segment) (λ (p : EvidencePart). IsMadeSegment entries f p.number p.segment)
    (λ p m. record { group = m.group; among = m.among; from = m.from; before = m.before; made = m.made; is = m.is }) parts own
