-- Segments that are gathered at once.
use Rattle.std.proofs.Common.{◌≡◌, ℕ, zero, suc, ◌+◌, ◌-◌, ◌*◌, ◌<◌, ◌≤◌, List, [], ◌∷◌, ◌++◌, length, take, drop, min, replicate, inl, inr, refl, ap, sym, ◌∙◌, arith, max, ◌/◌, ◌^◌}
use Rattle.std.proofs.Math.Nat.{add-mul, mul-le-mul_right}
use Rattle.std.proofs.Math.Seq.{take-append-add}
use Rattle.std.proofs.lemmas.Bool.{cases_lt}
use Rattle.std.proofs.lemmas.List.{append-nil, drop-append-le, drop-drop, length-drop, length-take, length-take-le, nil_from_length, take-append-drop, take-append-le, take-replicate, take_all}
use Rattle.aes_ctr.specs.CounterMode.{xored_from}
use Rattle.aes_ctr.proofs.StreamLemmas.{length-xored_from, xored_from-append}
use Rattle.ueb.specs.Shape.{rounded_up}
use Rattle.file_encoding.specs.Encoding.{padded_segment}
use Rattle.share_layout.specs.Geometry.{Geometry, block_size, segment_count}
use Rattle.share_layout.specs.Pieces.{block_length, pieces, segment_length}
use Rattle.block_making.proofs.MadeBlocks.{IsRoom, begins-before, is_room}
use Rattle.share_gathering.specs.Gathered.{Gathered, gathered_more, gathered_segments}
use Rattle.share_gathering.specs.Groups.{IsGroup, at_once, gathered_group}
use Rattle.share_gathering.specs.declared.groups.Group.{Group}

-- ---- pieces of two texts

-- whole pieces, and those of the text behind them
pub pieces-append : (n m size : ℕ) (xs ys : List ℕ) → length xs ≡ n * size → pieces (n + m) size (xs ++ ys) ≡ pieces n size xs ++ pieces m size ys
pieces-append zero m size xs ys long =
    let none : xs ≡ [] = nil_from_length xs (omega (arith, long)) in
    let e : 0 + m ≡ m = omega arith in
    (λ p. pieces (e p) size (none p ++ ys))
pieces-append (suc n) m size xs ys long =
    let within : size ≤ length xs = omega (arith, long) in
    let rest : length (drop size xs) ≡ n * size = omega (arith, length-drop size xs, long) in
    (let e : suc n + m ≡ suc (n + m) = omega arith in ap (λ k. pieces k size (xs ++ ys)) e)
    ∙ (λ p. take-append-le size xs ys within p ∷ pieces (n + m) size (drop-append-le size xs ys within p))
    ∙ ap (λ (l : List (List ℕ)). take size xs ∷ l) (pieces-append n m size (drop size xs) ys rest)

pub pieces-more : (n size : ℕ) (text : List ℕ) → pieces (n + 1) size text ≡ pieces n size text ++ take size (drop (n * size) text) ∷ []
pieces-more zero size text = let e : 0 ≡ 0 * size = omega arith in ap (λ k. take size (drop k text) ∷ []) e
pieces-more (suc n) size text =
    (let e : suc n + 1 ≡ suc (n + 1) = omega arith in ap (λ k. pieces k size text) e)
    ∙ ap (λ (l : List (List ℕ)). take size text ∷ l) (pieces-more n size (drop size text))
    ∙ ap (λ (t : List ℕ). take size text ∷ (pieces n size (drop size text) ++ take size t ∷ [])) (drop-drop (n * size) size text)
    ∙ (let e : size + n * size ≡ suc n * size = omega arith in ap (λ k. take size text ∷ (pieces n size (drop size text) ++ take size (drop k text) ∷ [])) e)

-- ---- what is gathered of two lists of segments

pub segments-append : (g : Geometry) (xs ys : List (List ℕ)) (s : Gathered) → gathered_segments g (xs ++ ys) s ≡ gathered_segments g ys (gathered_segments g xs s)
segments-append g [] ys s = refl
segments-append g (x ∷ xs) ys s = segments-append g xs ys (gathered_more g x s)

pub segments-more : (g : Geometry) (n size : ℕ) (text : List ℕ) (s : Gathered)
    → gathered_segments g (pieces (n + 1) size text) s ≡ gathered_more g (take size (drop (n * size) text)) (gathered_segments g (pieces n size text) s)
segments-more g n size text s =
    ap (λ (l : List (List ℕ)). gathered_segments g l s) (pieces-more n size text) ∙ segments-append g (pieces n size text) (take size (drop (n * size) text) ∷ []) s

-- a group more of a file
pub segments-group : (g : Geometry) (key : List ℕ) (group : Group) (file text : List ℕ) (s : Gathered) → IsGroup g group → length file ≡ group.first * g.segment_size
    → gathered_segments g (pieces (group.first + group.count) g.segment_size (xored_from key 0 (file ++ text))) s
    ≡ gathered_group g group (xored_from key group.offset text) (gathered_segments g (pieces group.first g.segment_size (xored_from key 0 file)) s)
segments-group g key group file text s is long =
    let size : ℕ = g.segment_size in
    let front : List ℕ = xored_from key 0 file in
    let whole : length front ≡ group.first * size = length-xored_from key 0 file ∙ long in
    let there : 0 + length file ≡ group.offset = omega (arith, long, is.offset) in
    ap (λ (t : List ℕ). gathered_segments g (pieces (group.first + group.count) size t) s) (xored_from-append key 0 file text)
    ∙ ap (λ p. gathered_segments g (pieces (group.first + group.count) size (front ++ xored_from key p text)) s) there
    ∙ ap (λ (l : List (List ℕ)). gathered_segments g l s) (pieces-append group.first group.count size front (xored_from key group.offset text) whole)
    ∙ segments-append g (pieces group.first size front) (pieces group.count size (xored_from key group.offset text)) s

-- ---- the offsets of a group's segments

some_at_once : (n : ℕ) → (0 < max (min n 8) 1) × (max (min n 8) 1 ≤ 8)
some_at_once n = (omega arith, omega arith)

-- at least one is gathered at once, and no more than eight
pub few_at_once : (g : Geometry) → (0 < at_once g) × (at_once g ≤ 8)
unfolding at_once
few_at_once g = some_at_once (2 ^ 20 / block_size g)

some_times : (n b : ℕ) → 0 < n → 8 * b ≤ 8 * (n * b)
some_times n b some = omega (arith, mul-le-mul_right {m = 1} {n = n} b (omega (arith, some)))

-- where the blocks of eight shares that are made at once have room, eight blocks have room
pub eight_lanes : (g : Geometry) → 8 * block_size g ≤ 8 * (at_once g * block_size g)
eight_lanes g = some_times (at_once g) (block_size g) (few_at_once g).0

-- what a group takes, and its segment of this number
pub record HasOffset (g : Geometry) (group : Group) (i : ℕ) : Type 0 where
  pub number : group.first + i < segment_count g
  pub few : group.count ≤ 8
  pub begins : i * g.segment_size < group.len
  pub ends : i * g.segment_size + g.segment_size ≤ 8 * g.segment_size
  pub fits : group.len ≤ 8 * g.segment_size
  pub whole : group.len ≤ group.count * g.segment_size
  pub left : min g.segment_size (group.len - i * g.segment_size) ≡ segment_length g (group.first + i)
  pub file : group.offset + group.len ≤ g.size

pub has_offset : (g : Geometry) (group : Group) (i : ℕ) → IsGroup g group → i < group.count → HasOffset g group i
has_offset g group i is low =
    let s : ℕ = g.segment_size in
    let number : group.first + i < segment_count g = omega (arith, low, is.count) in
    let few : group.count ≤ 8 = omega (arith, is.count, (few_at_once g).1) in
    let before : (group.first + i) * s < g.size = begins-before g (group.first + i) is.valid number in
    let split : (group.first + i) * s ≡ group.first * s + i * s = add-mul group.first i s in
    let next : (i + 1) * s ≤ group.count * s = mul-le-mul_right {m = i + 1} {n = group.count} s (omega (arith, low)) in
    let more : (i + 1) * s ≡ i * s + 1 * s = add-mul i 1 s in
    let eight : group.count * s ≤ 8 * s = mul-le-mul_right {m = group.count} {n = 8} s few in
    let some : 0 < s = is.valid.some_segment in
    record {
      number = number;
      few = few;
      begins = omega (arith, is.long, is.offset, before, split, next, more, some);
      ends = omega (arith, next, more, eight);
      fits = omega (arith, is.long, eight);
      whole = omega (arith, is.long);
      left = omega (arith, is.long, is.offset, before, split, next, more);
      file = omega (arith, is.long, is.offset, before, split);
    }

-- so many segments and a group are the file up to its end
pub group-end : (g : Geometry) (group : Group) → IsGroup g group → group.first * g.segment_size + group.len ≡ min ((group.first + group.count) * g.segment_size) g.size
group-end g group is = omega (arith, is.long, is.offset, add-mul group.first group.count g.segment_size, begins-before g group.first is.valid is.some)

-- ---- a segment with its padding, in a buffer with zeros behind the last

zeros-front : (n m : ℕ) (xs : List ℕ) → length xs ≤ n → n - length xs ≤ m → take n (xs ++ replicate m 0) ≡ xs ++ replicate (n - length xs) 0
zeros-front n m xs over fits =
    let e : n ≡ length xs + (n - length xs) = omega (arith, over) in
    ap (λ k. take k (xs ++ replicate m 0)) e ∙ take-append-add xs (replicate m 0) (n - length xs) ∙ ap (λ (l : List ℕ). xs ++ l) (take-replicate (n - length xs) m 0 fits)

pub padded-piece : (g : Geometry) (group : Group) (i room : ℕ) (buffer : List ℕ) → IsGroup g group → i < group.count → length buffer ≡ 8 * g.segment_size
    → drop group.len buffer ≡ replicate (8 * g.segment_size - group.len) 0 → room ≡ block_length g (group.first + i) * g.needed → room ≤ g.segment_size
    → take room (drop (i * g.segment_size) buffer) ≡ padded_segment g.needed (take g.segment_size (drop (i * g.segment_size) (take group.len buffer)))
padded-piece g group i room buffer is low long padding room_is small =
    let s : ℕ = g.segment_size in
    let m : ℕ = 8 * s - group.len in
    let at = has_offset g group i is low in
    let text : List ℕ = take group.len buffer in
    let rest : List ℕ = drop (i * s) text in
    let piece : List ℕ = take s rest in
    let text_long : length text ≡ group.len = length-take-le group.len buffer (omega (arith, at.fits, long)) in
    let rest_long : length rest ≡ group.len - i * s = omega (arith, length-drop (i * s) text, text_long) in
    let piece_long : length piece ≡ segment_length g (group.first + i) = length-take s rest ∙ ap (λ n. min s n) rest_long ∙ at.left in
    let room_of : IsRoom g (group.first + i) room = is_room g (group.first + i) room is.valid at.number room_is in
    let rounded : room ≡ rounded_up (length piece) g.needed = room_of.rounded ∙ ap (λ n. rounded_up n g.needed) (sym piece_long) in
    let split : drop (i * s) buffer ≡ rest ++ replicate m 0 =
    ap (drop (i * s)) (sym (take-append-drop group.len buffer) ∙ ap (λ (l : List ℕ). text ++ l) padding)
    ∙ drop-append-le (i * s) text (replicate m 0) (omega (arith, at.begins, text_long)) in
    let padded : take room (rest ++ replicate m 0) ≡ piece ++ replicate (room - length piece) 0 =
    elim (cases_lt (length rest) s) [
      | inl short ↦ (let own : piece ≡ rest = take_all s rest (omega (arith, short)) in
          zeros-front room m rest (omega (arith, room_of.within, piece_long, ap length own)) (omega (arith, small, rest_long, at.begins, at.ends))
          ∙ λ p. sym own p ++ replicate (room - length (sym own p)) 0)
      | inr whole ↦ (let full : length piece ≡ s = length-take-le s rest (omega (arith, whole)) in
          let same : room ≡ s = omega (arith, room_of.within, piece_long, full, small) in
          let none : room - length piece ≡ 0 = omega (arith, same, full) in
          take-append-le room rest (replicate m 0) (omega (arith, same, whole)) ∙ ap (λ n. take n rest) same ∙ sym (append-nil piece) ∙ λ p. piece ++ replicate (sym none p) 0)
    ] in
    ap (take room) split ∙ padded ∙ ap (λ n. piece ++ replicate (n - length piece) 0) rounded

-- there is a first one
pub has_first : (g : Geometry) (group : Group) → IsGroup g group → 0 < group.count
has_first g group is = omega (arith, is.count, is.some, (few_at_once g).0)

-- a group's bytes are all in the buffer
pub group_long : (g : Geometry) (group : Group) (segments : List ℕ) → IsGroup g group → length segments ≡ 8 * g.segment_size → length (take group.len segments) ≡ group.len
group_long g group segments is long =
    let at = has_offset g group 0 is (has_first g group is) in
    length-take-le group.len segments (omega (arith, at.fits, long))
