-- A padded text, cut to the file's size: its segments are those of the padded text without their padding.
use Rattle.std.proofs.Common.{◌≡◌, ℕ, ◌+◌, ◌-◌, ◌*◌, ◌<◌, ◌≤◌, List, [], length, take, drop, min, get_or, inl, inr, ap, sym, ◌∙◌, arith, zero-add}
use Rattle.std.proofs.lemmas.Grind.{div_ceil_times}
use Rattle.std.proofs.lemmas.Bool.{cases_lt}
use Rattle.std.proofs.lemmas.List.{drop-take, get_or-map, length-drop, length-take, length-take-le, take_all, take-take}
use Rattle.std.proofs.lemmas.List.FromFn.{get_or-map-range_with_len, length-map-range_with_len}
use Rattle.tagged_hash.specs.TaggedHash.{tagged_hash}
use Rattle.tagged_hash.specs.declared.tag.Tag.TheVariants.{CiphertextSegment}
use Rattle.ueb.specs.Shape.{rounded_up}
use Rattle.share_layout.specs.Geometry.{Geometry, IsGeometry, segment_count}
use Rattle.share_layout.specs.Pieces.{block_length, segment_at, segment_length}
use Rattle.proved_parts.proofs.Cover.{covers}
use Rattle.proved_parts.specs.FileOf.{segment_hashes}
use Rattle.file_encoding.specs.Padded.{plain_segments}
use Rattle.file_encoding.specs.Reading.{IsDecoded}
use Rattle.file_encoding.specs.Regenerated.{DecodeTo}
use Rattle.file_encoding.proofs.Decode.{begins_inside}
use Rattle.file_encoding.proofs.PaddedBelow.{padded_length}

-- what is left of a cut text, cut again
cut_again : (m n : ℕ) (text : List ℕ) → take m (take n text) ≡ take (min m n) (take m text)
cut_again m n text =
    elim (cases_lt n m) [
      | inl shorter ↦
          let least : min m n ≡ n = omega arith in
          take_all m (take n text) (omega (arith, length-take n text)) ∙ sym (take-take n m text (omega arith)) ∙ ap (λ (k : ℕ). take k (take m text)) (sym least)
      | inr longer ↦
          let least : min m n ≡ m = omega arith in
          take-take m n text longer ∙ sym (take-take m m text (omega arith)) ∙ ap (λ (k : ℕ). take k (take m text)) (sym least)
    ]

-- a segment of the cut text
pub plain_segment : (g : Geometry) (number : ℕ) (text : List ℕ) → number * g.segment_size ≤ g.size
    → segment_at g number (take g.size text) ≡ take (segment_length g number) (segment_at g number text)
plain_segment g number text begins =
    let start : ℕ = number * g.segment_size in
    let sum : g.size ≡ start + (g.size - start) = omega (arith, begins) in
    let rest : drop start (take g.size text) ≡ take (g.size - start) (drop start text) =
    ap (λ (n : ℕ). drop start (take n text)) sum ∙ drop-take start (g.size - start) text in
    ap (take g.segment_size) rest ∙ cut_again g.segment_size (g.size - start) (drop start text)

module _ (g : Geometry) (numbers : List ℕ) (blocks leaves : List (List ℕ)) where
  -- A padded text that the blocks decode to, cut to the file's size, is the ciphertext that they
  -- decode to.
  pub cut_decoded : (text : List ℕ) → IsGeometry g → DecodeTo g numbers blocks text → segment_hashes (plain_segments g text) ≡ leaves
      → IsDecoded g numbers blocks leaves (take g.size text)
  cut_decoded text valid decoded are =
      let n : ℕ = segment_count g in
      let reach : g.size ≤ rounded_up g.size g.needed = (div_ceil_times g.size g.needed valid.some_needed).0 in
      let begins : (number : ℕ) → number < n → number * g.segment_size ≤ g.size = (λ number there. let inside = begins_inside g number valid there in omega (arith, inside)) in
      let plain : ℕ → List ℕ = λ number. take (segment_length g number) (segment_at g number text) in
      let long : length (plain_segments g text) ≡ n = length-map-range_with_len plain 0 n in
      let whole : (number : ℕ) → length (segment_at g number text) ≡ g.needed * block_length g number =
      (λ number.
      length-take g.segment_size (drop (number * g.segment_size) text)
      ∙ ap (min g.segment_size) (length-drop (number * g.segment_size) text ∙ ap (λ (k : ℕ). k - number * g.segment_size) decoded.size)
      ∙ sym (padded_length g number valid)) in record {
        size = length-take-le g.size text (omega (arith, reach, decoded.size));
        segments = λ number there.
            let over = covers g number valid in
            let cut = plain_segment g number text (begins number there) in
            let short : length (plain number) ≡ segment_length g number = length-take-le (segment_length g number) (segment_at g number text) (omega (arith, over, whole number)) in
            record {
              padded = segment_at g number text;
              whole = whole number;
              shares = decoded.segments number there;
              cut = cut;
              long = ap length cut ∙ short;
            };
        hashes = λ number there.
            ap (tagged_hash CiphertextSegment) (plain_segment g number text (begins number there) ∙ sym (get_or-map-range_with_len plain 0 n number number [] there (zero-add number)))
            ∙ sym (get_or-map (tagged_hash CiphertextSegment) (plain_segments g text) number [] [] (omega (arith, there, long)))
            ∙ ap (λ (all : List (List ℕ)). get_or all number []) are;
      }
