-- The blocks of one encoding decode to its segments.
use Rattle.std.proofs.Common.{◌≡◌, ℕ, ◌+◌, ◌-◌, ◌*◌, ◌/◌, ◌%◌, ◌<◌, ◌≤◌, List, [], length, get_or, take, drop, min, inl, inr, ap, sym, subst, ◌∙◌, arith, zero-add}
use Rattle.std.proofs.lemmas.Bool.{cases_lt}
use Rattle.std.proofs.lemmas.Grind.{div_ceil_times}
use Rattle.std.proofs.lemmas.List.{get_or_default, ext_get_or, get_or-drop, get_or-map, get_or-take, length-drop, length-take, take_at}
use Rattle.std.proofs.lemmas.List.FromFn.{get_or-map-range_with_len, length-map-range_with_len}
use Rattle.std.proofs.lemmas.Nat.{div-add-mod'}
use Rattle.std.proofs.Math.Nat.{mul_comm, mul-le-mul_right}
use Rattle.ueb.specs.Shape.{IsShape}
use Rattle.zfec_code.proofs.Formula.{share_value-is}
use Rattle.zfec_code.specs.Rows.{AreDistinct}
use Rattle.zfec_code.proofs.ShareBlocks.{primaries_unique}
use Rattle.zfec_code.specs.Shares.{AreSharesOf, IsShareOf, IsShareValue}
use Rattle.zfec_code.specs.ShareValue.{share_block, share_value}
use Rattle.share_layout.specs.Geometry.{Geometry, block_size, segment_count}
use Rattle.share_verify.specs.Pieces.{joined}
use Rattle.share_layout.specs.Pieces.{pieces, block_length, segments_of, block_at, segment_at, segment_length}
use Rattle.share_verify.proofs.ChunkLemmas.{get_or-first_chunks, pieces_are_chunks}
use Rattle.file_encoding.specs.Encoding.{block_of, blocks_of, padded_segment}
use Rattle.file_encoding.proofs.Bytes.{AreBytes, bytes-append, bytes-drop, bytes-take, bytes-zeros}
use Rattle.file_encoding.proofs.Decode.{length-block_at}
use Rattle.file_encoding.proofs.OwnShares.{blocks_are_joined, geometry_is}
use Rattle.file_encoding.proofs.Padding.{padded-whole}
use Rattle.proved_parts.proofs.Files.{length-pieces}

-- the block by the formula is a share
pub formula_gives_share : (k i size : ℕ) (primaries : List ℕ) → k ≤ 256 → AreBytes primaries → length primaries ≡ k * size
    → IsShareOf k primaries i (share_block k i size primaries)
formula_gives_share k i size primaries few bytes whole =
    let value : ℕ → ℕ = λ t. share_value k i (λ j. get_or primaries (j * size + t) 0) in
    let long : length (share_block k i size primaries) ≡ size = length-map-range_with_len value 0 size in
    record {
      blocks = whole ∙ ap (λ n. k * n) (sym long);
      columns = λ t inside.
          subst (λ v. IsShareValue k (λ j. get_or primaries (j * length (share_block k i size primaries) + t) 0) i v)
          (sym (get_or-map-range_with_len value 0 size t t 0 (omega (arith, inside, long)) (zero-add t)))
          (subst (λ n. IsShareValue k (λ j. get_or primaries (j * n + t) 0) i (value t)) (sym long)
          (share_value-is k i (λ j. get_or primaries (j * size + t) 0) few (λ j _. bytes (j * size + t))));
    }

-- the block of a segment is a share of it, padded
pub block_is_share : (k i : ℕ) (segment : List ℕ) → 0 < k → k ≤ 256 → AreBytes segment → IsShareOf k (padded_segment k segment) i (block_of k i segment)
block_is_share k i segment some few bytes =
    let all : List ℕ = padded_segment k segment in
    let whole : length all ≡ k * (length all / k) =
    (let split : length all / k * k + length all % k ≡ length all = div-add-mod' (length all) k in
    let none = padded-whole k segment some in
    let turn : length all / k * k ≡ k * (length all / k) = mul_comm (length all / k) k in
    omega (arith, split, none, turn)) in
    formula_gives_share k i (length all / k) all few (bytes-append segment _ bytes (bytes-zeros _)) whole

-- a piece of a text
pub piece_at : (n size : ℕ) (text : List ℕ) (number : ℕ) → number < n → get_or (pieces n size text) number [] ≡ take size (drop (number * size) text)
piece_at n size text number inside = ap (λ (l : List (List ℕ)). get_or l number []) (pieces_are_chunks n size text) ∙ get_or-first_chunks size n text number [] inside

module _ (g : Geometry) (ciphertext : List ℕ) (shape : IsShape g.needed g.total g.size g.segment_size) (whole : length ciphertext ≡ g.size)
    (bytes : AreBytes ciphertext) where
  -- where a block stands among a share's
  pub block_is : (i number : ℕ) → i < g.total → number < segment_count g
      → block_at g number (joined (blocks_of g.needed i (segments_of g ciphertext))) ≡ block_of g.needed i (segment_at g number ciphertext)
  block_is i number low there =
      let segments : List (List ℕ) = segments_of g ciphertext in
      let all : List ℕ = joined (blocks_of g.needed i segments) in
      let count : length segments ≡ segment_count g = length-pieces (segment_count g) g.segment_size ciphertext in
      sym (piece_at (segment_count g) (block_size g) all number there)
      ∙ ap (λ (l : List (List ℕ)). get_or l number []) (blocks_are_joined g ciphertext (geometry_is g ciphertext shape whole) whole i low).again
      ∙ get_or-map (block_of g.needed i) segments number [] [] (omega (arith, there, count))
      ∙ ap (block_of g.needed i) (piece_at (segment_count g) g.segment_size ciphertext number there)

  pub length-segment : (number : ℕ) → length (segment_at g number ciphertext) ≡ segment_length g number
  length-segment number =
      length-take g.segment_size (drop (number * g.segment_size) ciphertext)
      ∙ ap (min g.segment_size) (length-drop (number * g.segment_size) ciphertext ∙ ap (λ n. n - number * g.segment_size) whole)

  -- the length of a padded segment
  pub length-padded_segment : (number : ℕ) → number < segment_count g
      → length (padded_segment g.needed (segment_at g number ciphertext)) ≡ g.needed * block_length g number
  length-padded_segment number there =
      let low : 0 < g.total = omega (arith, shape.file.some_needed, shape.file.enough) in
      let few : g.needed ≤ 256 = omega (arith, shape.file.enough, shape.file.shares) in
      let segment : List ℕ = segment_at g number ciphertext in
      let share = block_is_share g.needed 0 segment shape.file.some_needed few (bytes-take g.segment_size _ (bytes-drop (number * g.segment_size) ciphertext bytes)) in
      share.blocks
      ∙ ap (λ (b : List ℕ). g.needed * length b) (sym (block_is 0 number low there))
      ∙ ap (λ n. g.needed * n) (length-block_at g number (joined (blocks_of g.needed 0 (segments_of g ciphertext))) (blocks_are_joined g ciphertext (geometry_is g ciphertext shape whole) whole 0 low).size)

  -- what blocks of the encoding decode to is the segment
  pub decoded_is : (number : ℕ) (numbers : List ℕ) (blocks : List (List ℕ)) (padded segment : List ℕ) → number < segment_count g
      → length numbers ≡ g.needed → AreDistinct numbers → ((m : ℕ) → m < g.needed → get_or numbers m 0 < g.total)
      → ((m : ℕ) → m < g.needed → get_or blocks m [] ≡ block_at g number (joined (blocks_of g.needed (get_or numbers m 0) (segments_of g ciphertext))))
      → AreSharesOf g.needed padded numbers blocks
      → segment ≡ take (segment_length g number) padded → segment ≡ segment_at g number ciphertext
  decoded_is number numbers blocks padded segment there count distinct low are decodes cut =
      let own : List ℕ = segment_at g number ciphertext in
      let few : g.needed ≤ 256 = omega (arith, shape.file.enough, shape.file.shares) in
      let own_bytes : AreBytes own = bytes-take g.segment_size _ (bytes-drop (number * g.segment_size) ciphertext bytes) in
      let shares : AreSharesOf g.needed (padded_segment g.needed own) numbers blocks =
      (λ m below.
      let i : ℕ = get_or numbers m 0 in
      subst (λ b. IsShareOf g.needed (padded_segment g.needed own) i b)
      (sym (are m below ∙ block_is i number (low m below) there))
      (block_is_share g.needed i own shape.file.some_needed few own_bytes)) in
      let same : padded ≡ padded_segment g.needed own = primaries_unique g.needed padded (padded_segment g.needed own) numbers blocks shape.file.some_needed few count
      (λ m d h. let below = low m (omega (arith, h, count)) in omega (arith, below, get_or_default numbers m d 0 h, shape.file.shares)) distinct decodes shares in
      cut ∙ ap (take (segment_length g number)) same ∙ take_at own _ (segment_length g number) (length-segment number)

  -- a text that has each of the segments is the ciphertext
  pub same_text : (text : List ℕ) → length text ≡ g.size → ((number : ℕ) → number < segment_count g → segment_at g number text ≡ segment_at g number ciphertext)
      → text ≡ ciphertext
  same_text text size each =
      let seg : ℕ = g.segment_size in
      ext_get_or 0 text ciphertext (size ∙ sym whole) (λ j inside.
      let split : j / seg * seg + j % seg ≡ j = div-add-mod' j seg in
      let near : j % seg < seg = omega (arith, shape.segments.some) in
      let reach : g.size ≤ segment_count g * seg = (div_ceil_times g.size seg shape.segments.some).0 in
      let there : j / seg < segment_count g =
      elim (cases_lt (j / seg) (segment_count g)) [
        | inl is ↦ is
        | inr over ↦ absurd (omega (arith, split, inside, size, reach, mul-le-mul_right {m = segment_count g} {n = j / seg} seg over))
      ] in
      let at : (xs : List ℕ) → get_or (segment_at g (j / seg) xs) (j % seg) 0 ≡ get_or xs j 0 =
      (λ xs. get_or-take seg (drop (j / seg * seg) xs) (j % seg) 0 near ∙ get_or-drop (j / seg * seg) xs (j % seg) 0 ∙ ap (λ n. get_or xs n 0) split) in
      sym (at text) ∙ ap (λ (l : List ℕ). get_or l (j % seg) 0) (each (j / seg) there) ∙ at ciphertext)
