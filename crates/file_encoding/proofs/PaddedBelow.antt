-- Segments that are decoded with their padding, one after another.
use Rattle.std.proofs.Common.{◌≡◌, ℕ, ◌+◌, ◌-◌, ◌*◌, ◌/◌, ◌<◌, ◌≤◌, List, [], ◌++◌, length, map, take, drop, min, get_or, inl, inr, ap, sym, subst, ◌∙◌, arith, zero-add}
use Rattle.std.proofs.lemmas.Bool.{cases_lt}
use Rattle.std.proofs.lemmas.Grind.{div_ceil_times}
use Rattle.std.proofs.lemmas.List.{drop_at, drop-append-le, ext_get_or, get_or-map, length-append, length-drop, length-map, take_all, take-append-le}
use Rattle.std.proofs.lemmas.List.FromFn.{get_or-map-range_with_len, length-map-range_with_len}
use Rattle.std.proofs.lemmas.Nat.{div-add-mod'}
use Rattle.std.proofs.Math.Nat.{add-mul, mul_comm, mul-le-mul_right}
use Rattle.tagged_hash.specs.TaggedHash.{tagged_hash}
use Rattle.tagged_hash.specs.declared.tag.Tag.TheVariants.{CiphertextSegment}
use Rattle.zfec_code.specs.Shares.{AreSharesOf}
use Rattle.ueb.specs.Shape.{rounded_up}
use Rattle.share_layout.specs.Geometry.{Geometry, IsGeometry, segment_count, share_data_size}
use Rattle.share_layout.specs.Pieces.{block_at, block_length, segment_at, segment_length}
use Rattle.proved_parts.specs.FileOf.{segment_hashes}
use Rattle.file_encoding.specs.Making.{PaddedBelow}
use Rattle.file_encoding.specs.Padded.{plain_segments}
use Rattle.file_encoding.specs.Regenerated.{DecodeTo}
use Rattle.file_encoding.proofs.Decode.{begins_inside}
use Rattle.file_encoding.proofs.OwnBlocks.{div_ceil_within}

-- a cut after b times k of m times k
cut_front : (k b m : ℕ) → min (b * k) (m * k) ≡ min b m * k
cut_front k b m =
    elim (cases_lt b m) [
      | inl below ↦ let least : min b m ≡ b = omega arith in let low = mul-le-mul_right {m = b} {n = m} k (omega arith) in omega (arith, low) ∙ ap (λ x. x * k) (sym least)
      | inr above ↦ let least : min b m ≡ m = omega arith in let low = mul-le-mul_right {m = m} {n = b} k above in omega (arith, low) ∙ ap (λ x. x * k) (sym least)
    ]

cut_rest : (k b m : ℕ) → m * k - b * k ≡ (m - b) * k
cut_rest k b m =
    elim (cases_lt b m) [
      | inl below ↦ let sum : m ≡ b + (m - b) = omega arith in let all : m * k ≡ b * k + (m - b) * k = ap (λ x. x * k) sum ∙ omega arith in omega (arith, all)
      | inr above ↦ let low = mul-le-mul_right {m = m} {n = b} k above in let none : m - b ≡ 0 = omega arith in let nothing : 0 * k ≡ 0 = omega arith in omega (arith, low) ∙ sym nothing ∙ ap (λ x. x * k) (sym none)
    ]

-- a segment with its padding, of the padded text
pub padded_length : (g : Geometry) (count : ℕ) → IsGeometry g
    → g.needed * block_length g count ≡ min g.segment_size (rounded_up g.size g.needed - count * g.segment_size)
padded_length g count valid =
    let k : ℕ = g.needed in
    let b : ℕ = g.segment_size / k in
    let m : ℕ = share_data_size g in
    let cut_size : g.segment_size ≡ b * k = omega (arith, div-add-mod' g.segment_size k, valid.multiple) in
    let turned : count * (b * k) ≡ count * b * k = omega arith in
    let least : k * min b (m - count * b) ≡ min (b * k) (m * k - count * (b * k)) =
    mul_comm k (min b (m - count * b)) ∙ sym (cut_front k b (m - count * b)) ∙ ap (min (b * k)) (sym (cut_rest k (count * b) m))
    ∙ ap (λ (x : ℕ). min (b * k) (m * k - x)) (sym turned) in
    subst (λ (s : ℕ). k * min b (m - count * b) ≡ min s (m * k - count * s)) (sym cut_size) least

module _ (g : Geometry) (numbers : List ℕ) (blocks leaves : List (List ℕ)) where
  pub padded_none : PaddedBelow g numbers blocks leaves [] 0
  padded_none = record {
    size = omega arith;
    segments = λ number below. absurd (omega (arith, below));
    hashes = λ number below. absurd (omega (arith, below));
  }

  -- a segment more
  pub padded_more : (count : ℕ) (text padded after : List ℕ) → IsGeometry g → count < segment_count g → PaddedBelow g numbers blocks leaves text count
      → length padded ≡ g.needed * block_length g count → AreSharesOf g.needed padded numbers (map (block_at g count) blocks)
      → tagged_hash CiphertextSegment (take (segment_length g count) padded) ≡ get_or leaves count [] → after ≡ text ++ padded
      → PaddedBelow g numbers blocks leaves after (count + 1)
  padded_more count text padded after valid there before whole shares hashed joined =
      let seg : ℕ = g.segment_size in
      let up_to : ℕ = rounded_up g.size g.needed in
      let inside = begins_inside g count valid there in
      let more : g.size ≤ up_to = (div_ceil_times g.size g.needed valid.some_needed).0 in
      let long : length text ≡ count * seg = before.size ∙ omega (arith, inside, more) in
      let next : (count + 1) * seg ≡ count * seg + seg = add-mul count 1 seg ∙ omega arith in
      let fits : length padded ≡ min seg (up_to - count * seg) = whole ∙ padded_length g count valid in
      let held : (number : ℕ) → number < count → segment_at g number after ≡ segment_at g number text =
      (λ number below.
      let up : (number + 1) * seg ≤ count * seg = mul-le-mul_right seg (omega (arith, below)) in
      let split : (number + 1) * seg ≡ number * seg + seg = add-mul number 1 seg ∙ omega arith in
      let left : length (drop (number * seg) text) ≡ length text - number * seg = length-drop (number * seg) text in
      ap (segment_at g number) joined
      ∙ ap (take seg) (drop-append-le (number * seg) text padded (omega (arith, up, split, long)))
      ∙ take-append-le seg (drop (number * seg) text) padded (omega (arith, up, split, long, left))) in
      let new : segment_at g count after ≡ padded =
      ap (segment_at g count) joined ∙ ap (take seg) (drop_at text padded (count * seg) long)
      ∙ take_all seg padded (omega (arith, fits)) in record {
        size = ap length joined ∙ length-append text padded ∙ omega (arith, long, fits, inside, more, next);
        segments = λ number below.
            elim (cases_lt number count) [
              | inl old ↦ subst (λ (s : List ℕ). AreSharesOf g.needed s numbers (map (block_at g number) blocks)) (sym (held number old)) (before.segments number old)
              | inr same ↦ (let is : count ≡ number = omega (arith, below, same) in
                  subst (λ (n : ℕ). AreSharesOf g.needed (segment_at g n after) numbers (map (block_at g n) blocks)) is
                  (subst (λ (s : List ℕ). AreSharesOf g.needed s numbers (map (block_at g count) blocks)) (sym new) shares))
            ];
        hashes = λ number below.
            elim (cases_lt number count) [
              | inl old ↦ ap (λ (s : List ℕ). tagged_hash CiphertextSegment (take (segment_length g number) s)) (held number old) ∙ before.hashes number old
              | inr same ↦ (let is : count ≡ number = omega (arith, below, same) in
                  subst (λ (n : ℕ). tagged_hash CiphertextSegment (take (segment_length g n) (segment_at g n after)) ≡ get_or leaves n []) is
                  (ap (λ (s : List ℕ). tagged_hash CiphertextSegment (take (segment_length g count) s)) new ∙ hashed))
            ];
      }

  -- all of them
  pub padded_all : (count : ℕ) (text : List ℕ) → IsGeometry g → count ≡ segment_count g → PaddedBelow g numbers blocks leaves text count → DecodeTo g numbers blocks text
  padded_all count text valid all below =
      let whole : PaddedBelow g numbers blocks leaves text (segment_count g) = subst (PaddedBelow g numbers blocks leaves text) all below in
      let k : ℕ = g.needed in
      let b : ℕ = g.segment_size / k in
      let n : ℕ = segment_count g in
      let cut_size : g.segment_size ≡ b * k = omega (arith, div-add-mod' g.segment_size k, valid.multiple) in
      let ceil = div_ceil_times g.size g.segment_size valid.some_segment in
      let reach : g.size ≤ n * (b * k) = subst (λ (s : ℕ). g.size ≤ n * s) cut_size ceil.0 in
      let within : share_data_size g ≤ n * b = div_ceil_within (n * b) k 0 valid.some_needed g.size (omega (arith, reach)) in
      let room : share_data_size g * k ≤ n * b * k = mul-le-mul_right {m = share_data_size g} {n = n * b} k within in
      let end : rounded_up g.size k ≤ n * g.segment_size = subst (λ (s : ℕ). rounded_up g.size k ≤ n * s) (sym cut_size) (omega (arith, room)) in
      record { size = whole.size ∙ omega (arith, end); segments = whole.segments }

  pub padded_leaves_are : (count : ℕ) (text : List ℕ) → length leaves ≡ segment_count g → count ≡ segment_count g → PaddedBelow g numbers blocks leaves text count
      → segment_hashes (plain_segments g text) ≡ leaves
  padded_leaves_are count text counted all below =
      let n : ℕ = segment_count g in
      let plain : ℕ → List ℕ = λ number. take (segment_length g number) (segment_at g number text) in
      let long : length (plain_segments g text) ≡ n = length-map-range_with_len plain 0 n in
      ext_get_or [] (segment_hashes (plain_segments g text)) leaves (length-map (plain_segments g text) (tagged_hash CiphertextSegment) ∙ long ∙ sym counted)
      (λ i inside.
      let there : i < n = omega (arith, inside, length-map (plain_segments g text) (tagged_hash CiphertextSegment), long) in
      get_or-map (tagged_hash CiphertextSegment) (plain_segments g text) i [] [] (omega (arith, there, long))
      ∙ ap (tagged_hash CiphertextSegment) (get_or-map-range_with_len plain 0 n i i [] there (zero-add i))
      ∙ below.hashes i (omega (arith, there, all)))
