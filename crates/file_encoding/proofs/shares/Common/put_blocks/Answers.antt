use Rattle.std.proofs.Common.{◌≡◌, ◌-◌, ◌+◌, ◌*◌, ◌/◌, ◌%◌, ◌<◌, ◌≤◌, List, ℕ, [], ◌∷◌, ◌++◌, drop, length, take, map, refl, ap, sym, ◌∙◌, arith}
use Rattle.std.proofs.Math.Nat.{div-le_of_le-mul}
use Rattle.std.proofs.lemmas.List.{append_assoc, append-nil, drop_at, length-append, length-take, take_all, take_at}
use Rattle.std.proofs.lemmas.List.FromFn.{length-map-range_with_len}
use Rattle.std.proofs.lemmas.Nat.{div-add-mod'}
use Rattle.std.proofs.lemmas.Nat.Gcd.{mod-eq-zero_of_dvd}
use Rattle.std.proofs.lemmas.Result.{IfOk-weaker}
use Rattle.tagged_hash.specs.TaggedHash.{tagged_hash}
use Rattle.tagged_hash.specs.declared.tag.Tag.TheVariants.{Block}
use Rattle.ueb.specs.Shape.{rounded_up}
use Rattle.share_layout.specs.Geometry.{Geometry, IsGeometry, block_size, segment_count, share_data_size}
use Rattle.share_layout.specs.Layout.{header_size, layout_of, offsets_of}
use Rattle.share_verify.specs.Pieces.{block_hashes, joined, pieces}
use Rattle.file_encoding.specs.Blocks.{padded_block, padded_blocks}
use Rattle.file_encoding.specs.Drafts.{DraftState}
use Rattle.file_encoding.proofs.Drafting.{length-padded_blocks, padded_blocks-again}
use Rattle.file_encoding.proofs.Padding.{rounded_up-whole}
use Rattle.file_encoding.proofs.Pieces.{pieces-from, piece-whole, values_of_pieces}
use Rattle.file_encoding.proofs.shares.Common.put_blocks.Invariants.{Written, rest_of}
use Rattle.file_encoding.proofs.shares.Common.put_blocks.Goals as goal

-- the segment of this number
abbrev this : Geometry → List ℕ → ℕ → List ℕ
this g text number = take g.segment_size (drop (number * g.segment_size) text)

-- the blocks from one on are this one, and those from the next one on
rest_more : (g : Geometry) (i : ℕ) (text : List ℕ) (number : ℕ) → number < segment_count g
    → rest_of g i text number ≡ padded_block g.needed i (this g text number) ∷ rest_of g i text (number + 1)
rest_more g i text number below = ap (map (padded_block g.needed i)) (pieces-from (segment_count g) g.segment_size number text below)

-- behind the last there are none
rest_none : (g : Geometry) (i : ℕ) (text : List ℕ) (number : ℕ) → segment_count g ≤ number → rest_of g i text number ≡ []
rest_none g i text number over =
    let none : segment_count g - number ≡ 0 = omega (arith, over) in
    ap (λ n. map (padded_block g.needed i) (pieces n g.segment_size (drop (number * g.segment_size) text))) none

-- what is written in the end
record Done (g : Geometry) (text : List ℕ) (before now : DraftState) : Type 0 where
  draft : now ≡ record before { bytes = before.bytes ++ joined (padded_blocks g before.number text) }
  bytes : now.bytes ≡ before.bytes ++ joined (padded_blocks g before.number text)
  size : length now.bytes ≡ (offsets_of g).unused

done : (g : Geometry) (text : List ℕ) (before now : DraftState) (number : ℕ) → IsGeometry g
    → length text ≡ rounded_up g.size g.needed → length before.bytes ≡ header_size (layout_of g)
    → Written g text before now number → segment_count g ≤ number → Done g text before now
done g text before now number valid padded front have over =
    let i : ℕ = before.number in
    let blocks : List ℕ = joined (padded_blocks g i text) in
    let all : now.bytes ≡ before.bytes ++ blocks = sym (have.blocks ∙ ap (λ bs. now.bytes ++ joined bs) (rest_none g i text number over) ∙ append-nil now.bytes) in
    record {
      draft = λ p. record { geometry = have.geometry p; number = have.same p; bytes = all p };
      bytes = all;
      size = ap length all ∙ length-append before.bytes blocks ∙ omega (arith, front, length-padded_blocks g i text valid padded);
    }

-- one block more
one_more : (g : Geometry) (text : List ℕ) (before now after : DraftState) (number : ℕ) (segment : List ℕ)
    → Written g text before now number → number < segment_count g → segment ≡ this g text number
    → after ≡ record now { bytes = now.bytes ++ padded_block g.needed now.number segment }
    → Written g text before after (number + 1)
one_more g text before now after number segment have below is put =
    let i : ℕ = before.number in
    let block : List ℕ = padded_block g.needed i (this g text number) in
    let rest : List (List ℕ) = rest_of g i text (number + 1) in
    let written : padded_block g.needed now.number segment ≡ block = λ p. padded_block g.needed (have.same p) (is p) in
    record {
      geometry = ap (λ (d : DraftState). d.geometry) put ∙ have.geometry;
      same = ap (λ (d : DraftState). d.number) put ∙ have.same;
      blocks =
          have.blocks ∙ ap (λ bs. now.bytes ++ joined bs) (rest_more g i text number below)
          ∙ sym (append_assoc now.bytes block (joined rest))
          ∙ ap (λ out. out ++ joined rest) (sym (ap (λ (d : DraftState). d.bytes) put ∙ ap (λ b. now.bytes ++ b) written));
    }

-- there is room for one block more
room_more : (g : Geometry) (text : List ℕ) (before now : DraftState) (number : ℕ) (segment : List ℕ)
    → Written g text before now number → number < segment_count g → segment ≡ this g text number
    → length (joined (padded_blocks g before.number text)) ≡ share_data_size g → length before.bytes ≡ header_size (layout_of g) → before.geometry ≡ g
    → length now.bytes + length segment / g.needed ≤ (offsets_of now.geometry).extension_block
room_more g text before now number segment have below is all front same =
    let i : ℕ = before.number in
    let block : List ℕ = padded_block g.needed i (this g text number) in
    let rest : List (List ℕ) = rest_of g i text (number + 1) in
    let long : length block ≡ length segment / g.needed =
    length-map-range_with_len _ 0 (length (this g text number) / g.needed) ∙ ap (λ (s : List ℕ). length s / g.needed) (sym is) in
    let sum : length before.bytes + length (joined (padded_blocks g i text)) ≡ length now.bytes + (length block + length (joined rest)) =
    sym (length-append before.bytes (joined (padded_blocks g i text)))
    ∙ ap length (have.blocks ∙ ap (λ bs. now.bytes ++ joined bs) (rest_more g i text number below))
    ∙ length-append now.bytes (block ++ joined rest) ∙ ap (λ n. length now.bytes + n) (length-append block (joined rest)) in
    let ends : (offsets_of now.geometry).extension_block ≡ (offsets_of g).extension_block = ap (λ (h : Geometry). (offsets_of h).extension_block) (have.geometry ∙ same) in
    omega (arith, long, sum, all, front, ends)

pub put_block-requires-clause-in_range : goal.put_block-requires-clause-in_range
put_block-requires-clause-in_range c = omega (arith, c.loop-number.invariant.same, c.requires.in_range)

pub put_block-requires-clause-whole : goal.put_block-requires-clause-whole
put_block-requires-clause-whole c =
    let g : Geometry = c.args.self.now.geometry.now in
    let valid = c.of-segments.ensures.valid in
    ap (λ (s : List ℕ). length s % g.needed)
    (c.segment.ensures ∙ λ p. take (c.of-segments.ensures.size p) (drop (c.loop-number.number * c.of-segments.ensures.size p) (c.of-segments.ensures.text p)))
    ∙ piece-whole g.needed g.segment_size c.loop-number.number c.args.self.now.padded.now valid.multiple
    (ap (λ (n : ℕ). n % g.needed) c.args.self.now.fit.padded ∙ mod-eq-zero_of_dvd g.needed (rounded_up-whole g.size g.needed))

pub put_block-requires-clause-buffer : goal.put_block-requires-clause-buffer
put_block-requires-clause-buffer c =
    let g : Geometry = c.args.self.now.geometry.now in
    let short : length c.segment.result.now ≤ g.segment_size =
    omega (arith, ap length c.segment.ensures, length-take c.of-segments.result.size (drop (c.loop-number.number * c.of-segments.result.size) c.of-segments.result.text.now), c.of-segments.ensures.size) in
    let b : ℕ = g.segment_size / g.needed in
    let cut : g.segment_size ≡ g.needed * b = omega (arith, div-add-mod' g.segment_size g.needed, c.of-segments.ensures.valid.multiple) in
    omega (arith, div-le_of_le-mul g.needed {m = length c.segment.result.now} {n = b} (omega (arith, short, cut)), c.requires.block, c.loop-number.auto.block)

pub put_block-requires-clause-room : goal.put_block-requires-clause-room
put_block-requires-clause-room c =
    let g : Geometry = c.args.self.now.geometry.now in
    room_more g c.args.self.now.padded.now c.args.draft.now c.loop-number.draft c.loop-number.number c.segment.result.now c.loop-number.invariant
    (omega (arith, c.loop-number-test.true, c.of-segments.ensures.count))
    (c.segment.ensures ∙ λ p. take (c.of-segments.ensures.size p) (drop (c.loop-number.number * c.of-segments.ensures.size p) (c.of-segments.ensures.text p)))
    (length-padded_blocks g c.args.draft.now.number c.args.self.now.padded.now c.of-segments.ensures.valid c.args.self.now.fit.padded) c.requires.next c.requires.geometry

pub loop-number-preserved : goal.loop-number-preserved
loop-number-preserved c =
    one_more c.args.self.now.geometry.now c.args.self.now.padded.now c.args.draft.now c.loop-number.draft c.put_block.new.draft c.loop-number.number
    c.segment.result.now c.loop-number.invariant (omega (arith, c.loop-number-test.true, c.of-segments.ensures.count))
    (c.segment.ensures ∙ λ p. take (c.of-segments.ensures.size p) (drop (c.loop-number.number * c.of-segments.ensures.size p) (c.of-segments.ensures.text p)))
    c.in_ok-put_block.ensures

pub returns-clause-blocks : goal.returns-clause-blocks
returns-clause-blocks c =
    IfOk-weaker c.build_beside.result _ _
    (λ tree is.
    (done c.args.self.now.geometry.now c.args.self.now.padded.now c.args.draft.now c.loop-number.draft c.loop-number.number
    c.of-segments.ensures.valid c.args.self.now.fit.padded c.requires.next c.loop-number.invariant (omega (arith, c.loop-number-test.false, c.of-segments.ensures.count))).draft) c.build_beside.ensures

pub returns-clause-size : goal.returns-clause-size
returns-clause-size c =
    IfOk-weaker c.build_beside.result _ _
    (λ tree is.
    (done c.args.self.now.geometry.now c.args.self.now.padded.now c.args.draft.now c.loop-number.draft c.loop-number.number
    c.of-segments.ensures.valid c.args.self.now.fit.padded c.requires.next c.loop-number.invariant (omega (arith, c.loop-number-test.false, c.of-segments.ensures.count))).size) c.build_beside.ensures

-- what stands behind a first part
behind : (all before front rest : List ℕ) → before ≡ front → all ≡ front ++ rest
    → take (length all - length before) (drop (length before) all) ≡ rest
behind all before front rest same is =
    let long : length all ≡ length front + length rest = ap length is ∙ length-append front rest in
    let first : length before ≡ length front = ap length same in
    (λ p. take (length all - length before) (drop (first p) (is p)))
    ∙ ap (take (length all - length before)) (drop_at front rest (length front) refl)
    ∙ take_all (length all - length before) rest (omega (arith, long, first))

pub returns-clause-tree : goal.returns-clause-tree
returns-clause-tree c =
    IfOk-weaker c.build_beside.result _ _
    (λ tree is.
    let g : Geometry = c.args.self.now.geometry.now in
    let text : List ℕ = c.args.self.now.padded.now in
    let draft : DraftState = c.args.draft.now in
    let written = done g text draft c.loop-number.draft c.loop-number.number c.of-segments.ensures.valid c.args.self.now.fit.padded c.requires.next c.loop-number.invariant
    (omega (arith, c.loop-number-test.false, c.of-segments.ensures.count)) in
    let hashes : List (List ℕ) = c.tagged_pieces.new.hashes in
    let blocks : List ℕ = joined (padded_blocks g draft.number text) in
    let raw = behind c.bytes.result.now c.bytes-before.result.now draft.bytes blocks c.bytes-before.ensures (c.bytes.ensures ∙ written.bytes) in
    let size : length c.loop-number.block ≡ block_size g = omega (arith, c.requires.block, c.loop-number.auto.block) in
    let many : length hashes ≡ segment_count g = omega (arith, c.in_ok-hashes.ensures.len, c.of-segments.ensures.count) in
    is ∙ c.deref.ensures.value ∙ take_at hashes _ c.in_ok-hashes.hashes.len (omega (arith, c.in_ok-hashes.ensures.len))
    ∙ values_of_pieces (tagged_hash Block) (segment_count g) (length c.loop-number.block) _ hashes many (λ i below. c.tagged_pieces.ensures i (omega (arith, below)))
    ∙ (λ p. map (tagged_hash Block) (pieces (segment_count g) (size p) (raw p)))
    ∙ ap block_hashes (padded_blocks-again g draft.number text c.of-segments.ensures.valid c.args.self.now.fit.padded)) c.build_beside.ensures
