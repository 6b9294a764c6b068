use Rattle.std.proofs.Common.{◌≡◌, ◌⊎◌, ℕ, ◌+◌, ◌-◌, ◌*◌, ◌<◌, ◌≤◌, List, ◌++◌, length, take, drop, inl, inr, ap, sym, subst, ◌∙◌, arith}
use Rattle.std.proofs.Math.Nat.{add-mul, div-mul-le_self, mul_comm, mul-le-mul_right}
use Rattle.std.proofs.lemmas.List.{length-drop, length-take-le, take_all}
use borrow.Rule.Slice.PartMut.{put_mid}
use Rattle.zfec_code.specs.ShareValue.{share_block}
use Rattle.share_layout.specs.Geometry.{Geometry, block_size}
use Rattle.share_layout.specs.Pieces.{block_length, pieces}
use Rattle.share_verify.specs.Pieces.{joined}
use Rattle.file_encoding.specs.Encoding.{block_of, blocks_of, padded_segment}
use Rattle.share_gathering.specs.declared.groups.Group.{Group}
use Rattle.share_gathering.proofs.GroupSteps.{has_offset, padded-piece}
use Rattle.share_gathering.proofs.Rows.{front-more, front_of, has_block_offset, row-more, row-short}
use Rattle.share_gathering.proofs.Rows.{block-is}
use Rattle.share_gathering.proofs.shares.encode_row.Goals as goal

-- so many bytes for each block are no more than a segment
within_segment : (g : Geometry) (size needed : ℕ) → needed ≡ g.needed → size ≤ block_size g → size * needed ≤ g.segment_size
within_segment g size needed same low =
    let one : size * needed ≤ block_size g * needed = mul-le-mul_right {m = size} {n = block_size g} needed low in
    omega (arith, one, subst (λ n. block_size g * n ≤ g.segment_size) (sym same) (div-mul-le_self g.segment_size g.needed))

pub slice_bounds-padded-end : goal.slice_bounds-padded-end
slice_bounds-padded-end c =
    let g : Geometry = c.args.geometry.now in
    let i : ℕ = c.loop-i.i in
    let at = has_offset g c.args.group i c.requires.group (omega (arith, c.loop-i-test.true, c.loop-i.auto.i-end)) in
    let start : i * c.segment_size-segment_size.result ≡ i * g.segment_size = ap (λ n. i * n) c.segment_size-segment_size.ensures.value in
    let room = within_segment g c.block_length-size.result c.from-needed.result (c.from-needed.ensures ∙ c.needed.ensures.value) c.block_length-size.ensures.range.1 in
    omega (arith, start, room, at.ends, c.requires.segments)

pub loop-i-preserved : goal.loop-i-preserved
loop-i-preserved c =
    let g : Geometry = c.args.geometry.now in
    let group : Group = c.args.group in
    let share : ℕ = c.args.share in
    let i : ℕ = c.loop-i.i in
    let b : ℕ = block_size g in
    let buffer : List ℕ = c.args.segments.now in
    let text : List ℕ = take group.len buffer in
    let size : ℕ = c.block_length-size.result in
    let needed : ℕ = c.from-needed.result in
    let same : needed ≡ g.needed = c.from-needed.ensures ∙ c.needed.ensures.value in
    let low : i < group.count = omega (arith, c.loop-i-test.true, c.loop-i.auto.i-end) in
    let at = has_offset g group i c.requires.group low in
    let text_long : length text ≡ group.len = length-take-le group.len buffer (omega (arith, at.fits, c.requires.segments)) in
    let block = has_block_offset g group text share c.requires.group text_long i low in
    let start : ℕ = i * c.segment_size-segment_size.result in
    let start_is : start ≡ i * g.segment_size = ap (λ n. i * n) c.segment_size-segment_size.ensures.value in
    let room = within_segment g size needed same c.block_length-size.ensures.range.1 in
    let size_is : size ≡ block_length g (group.first + i) = c.block_length-size.ensures.value in
    let room_is : size * needed ≡ block_length g (group.first + i) * g.needed = λ p. size_is p * same p in
    let count : start + size * needed - start ≡ size * needed = omega arith in
    let padded : List ℕ = take (start + size * needed - start) (drop start buffer) in
    let piece : List ℕ = take g.segment_size (drop (i * g.segment_size) text) in
    let is : padded ≡ padded_segment g.needed piece =
    (λ p. take (count p) (drop (start_is p) buffer))
    ∙ padded-piece g group i (size * needed) buffer c.requires.group low c.requires.segments c.requires.padding room_is room in
    let long : length padded ≡ g.needed * size =
    ap (λ n. length (take n (drop start buffer))) count
    ∙ length-take-le (size * needed) (drop start buffer) (omega (arith, length-drop start buffer, start_is, room, at.ends, c.requires.segments))
    ∙ mul_comm size needed ∙ ap (λ n. n * size) same in
    let row : List ℕ = c.loop-i.row in
    let row_long : length row ≡ group.row = c.loop-i.auto.row ∙ c.requires.row in
    let offset : ℕ = i * c.block_size-block_size.result in
    let offset_is : offset ≡ i * b = ap (λ n. i * n) c.block_size-block_size.ensures.value in
    let part : offset + size - offset ≡ size = omega arith in
    let out : List ℕ = c.encode_lane.new.lanes in
    let out_long : length out ≡ size =
    c.encode_lane.auto.lanes ∙ ap (λ n. length (take n (drop offset row))) part
    ∙ length-take-le size (drop offset row) (omega (arith, length-drop offset row, row_long, offset_is, size_is, block.ends)) in
    let none : 0 * size ≡ 0 = omega arith in
    let made : out ≡ block_of g.needed share piece =
    sym (ap (λ n. take size (drop n out)) none ∙ take_all size out (omega (arith, out_long)))
    ∙ c.encode_lane.ensures.block ∙ ap (λ k. share_block k share size padded) c.requires.needed
    ∙ block-is g.needed share size piece padded c.requires.group.valid.some_needed is long in
    let split : (i + 1) * b ≡ i * b + 1 * b = add-mul i 1 b in
    let next : ((i + 1) * b ≡ i * b + size) ⊎ (i * b + size ≡ group.row) =
    elim block.next [ inl full ↦ inl (omega (arith, full, size_is, split)) | inr end ↦ inr (omega (arith, end, size_is)) ] in
    let front : List ℕ = front_of g c.requires.group.valid share i text in
    (λ p. take ((i + 1) * b) (put_mid (offset_is p) (part p) row out))
    ∙ row-more (i * b) size ((i + 1) * b) group.row row front out c.loop-i.invariant block.before out_long row_long (omega (arith, size_is, block.ends)) next
    (omega (arith, split, c.block_length-size.ensures.range.1))
    ∙ ap (λ (l : List ℕ). front ++ l) made ∙ sym (front-more g c.requires.group.valid share i text)

pub slice_bounds-encode_lane-end : goal.slice_bounds-encode_lane-end
slice_bounds-encode_lane-end c =
    let g : Geometry = c.args.geometry.now in
    let group : Group = c.args.group in
    let i : ℕ = c.loop-i.i in
    let low : i < group.count = omega (arith, c.loop-i-test.true, c.loop-i.auto.i-end) in
    let at = has_offset g group i c.requires.group low in
    let text_long : length (take group.len c.args.segments.now) ≡ group.len = length-take-le group.len c.args.segments.now (omega (arith, at.fits, c.requires.segments)) in
    let block = has_block_offset g group (take group.len c.args.segments.now) c.args.share c.requires.group text_long i low in
    let offset_is : i * c.block_size-block_size.result ≡ i * block_size g = ap (λ n. i * n) c.block_size-block_size.ensures.value in
    omega (arith, offset_is, c.block_length-size.ensures.value, block.ends, c.loop-i.auto.row, c.requires.row)

pub returns : goal.returns
returns c =
    let g : Geometry = c.args.geometry.now in
    let group : Group = c.args.group in
    let i : ℕ = c.loop-i.i in
    let same : i ≡ group.count = omega (arith, c.loop-i-test.false, c.loop-i.auto.i-end) in
    let end : i * block_size g ≡ group.count * block_size g = ap (λ n. n * block_size g) same in
    sym (take_all (i * block_size g) c.loop-i.row (omega (arith, end, row-short g group c.requires.group, c.loop-i.auto.row, c.requires.row)))
    ∙ c.loop-i.invariant
    ∙ ap (λ n. joined (blocks_of g.needed c.args.share (pieces n g.segment_size (take group.len c.args.segments.now)))) same
