-- A segment that was decoded from blocks that were read.
use Rattle.std.proofs.Common.{◌≡◌, ℕ, ◌*◌, ◌/◌, ◌%◌, ◌++◌, ◌<◌, ◌≤◌, List, length, map, take, drop, inr, refl, ap, subst, sym, ◌∙◌, arith}
use Rattle.std.proofs.Math.Nat.{div-mul-le_self, mul-le-mul_right}
use Rattle.std.proofs.lemmas.List.{append_assoc, length-take-le}
use Rattle.zfec_code.specs.Shares.{AreSharesOf}
use Rattle.ueb.specs.Shape.{rounded_up}
use Rattle.share_layout.specs.Geometry.{Geometry, block_size}
use Rattle.share_layout.specs.Pieces.{block_length, pieces}
use Rattle.proved_parts.proofs.Files.{length-pieces}
use Rattle.download_segments.specs.Decoding.{AreShareNumbers}
use Rattle.share_source.specs.Reads.{Fails, Gives}
use Rattle.share_source.specs.Candidates.{AreBlocksTold, AreReadOn, AreSharesRead, Candidates, ShareRead, leaves_held, picked_numbers}
use Rattle.share_source.specs.Decoded.{Decoding, GivesDecoded, IsSegmentDecoded, block_place, blocks_read}
use Rattle.share_source.specs.declared.place.Place.{Place}
use Rattle.share_source.proofs.Asking.{asked_append}
use Rattle.share_source.proofs.Blocks.{pieces_alike}

-- a segment's blocks have room where a whole segment has
pub blocks_fit : (g : Geometry) (segment : ℕ) → g.needed * block_length g segment ≤ g.segment_size
blocks_fit g segment =
    let one : block_length g segment * g.needed ≤ block_size g * g.needed = mul-le-mul_right {m = block_length g segment} {n = block_size g} g.needed (omega arith) in
    omega (arith, one, div-mul-le_self g.segment_size g.needed)

module _ {B : Type 0} (gives : Gives B) (fails : Fails B) (g : Geometry) (segment : ℕ) (old mid new : Candidates B)
    (before more : List ShareRead) (text positions joined : List ℕ) where
  -- what was read last, at a place, makes the text
  abbrev Makes : Place → Type 0
  Makes place = AreSharesRead gives fails place old before mid → AreSharesRead gives fails place mid (more ++ blocks_read positions (pieces g.needed place.size joined)) new
      → AreBlocksTold old.ueb place.segment (picked_numbers old.numbers positions) (map (leaves_held new.held) positions) (pieces g.needed place.size joined)
      → AreSharesOf g.needed text (picked_numbers old.numbers positions) (pieces g.needed place.size joined) → IsSegmentDecoded gives fails g segment old text positions new

  pub segment_decoded : (place : Place) → place ≡ block_place g segment → length joined ≡ g.segment_size → AreShareNumbers g (picked_numbers old.numbers positions)
      → length text ≡ g.needed * block_length g segment → Makes place
  segment_decoded place is room numbers long =
      let blocks : List (List ℕ) = pieces g.needed (block_length g segment) joined in
      let makes : Makes (block_place g segment) = (λ first last told shares. record {
        before = before ++ more;
        blocks = blocks;
        read = subst (λ rs. AreSharesRead gives fails (block_place g segment) old rs new) (sym (append_assoc before more (blocks_read positions blocks)))
            (asked_append gives fails (block_place g segment) before (more ++ blocks_read positions blocks) old mid new first last);
        enough = length-pieces g.needed (block_length g segment) joined;
        alike = pieces_alike g.needed (block_length g segment) joined (omega (arith, blocks_fit g segment, room));
        told = told;
        numbers = numbers;
        long = long;
        shares = shares;
      }) in
      subst Makes (sym is) makes

-- a part of a segment is what a read gives
pub gives_part : {B : Type 0} (gives : Gives B) (fails : Fails B) (old : Decoding B) (offset count : ℕ) (out padded reading : List ℕ) (new : Candidates B)
    → offset < rounded_up old.geometry.size old.geometry.needed → IsSegmentDecoded gives fails old.geometry (offset / old.geometry.segment_size) old.candidates padded reading new
    → 0 < count → count ≤ length out → take count out ≡ take count (drop (offset % old.geometry.segment_size) padded) → AreReadOn old.reading new.struck reading
    → GivesDecoded gives fails old offset (take count out) (record old { candidates = new; reading = reading })
gives_part gives fails old offset count out padded reading new low read some few part on =
    let long : length (take count out) ≡ count = length-take-le count out few in
    inr (
      low,
      record {
        padded = padded;
        segment = read;
        some = subst (λ n. 0 < n) (sym long) some;
        part = part ∙ ap (λ n. take n (drop (offset % old.geometry.segment_size) padded)) (sym long);
        read_on = on;
        others = refl;
      },
    )
