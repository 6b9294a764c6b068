use Rattle.std.proofs.Common.{◌≡◌, ◌+◌, ◌++◌, ◌∷◌, [], ℕ, List, Vec, Global, length, length-append, map, ap, subst, sym, ◌∙◌, arith}
use Rattle.proved_parts.specs.Decoding.{DecodesBlocks}
use Rattle.download_segments.specs.Decoding.{DecodingState, blocks_in}
use Rattle.download_segments.proofs.group.decode_row.Goals as goal
use Rattle.download_segments.specs.GroupMaking.{nth}
use Rattle.download_segments.proofs.GroupRowLemmas.{nth_item, nth_pushed}

pub loop-row-preserved : goal.loop-row-preserved
loop-row-preserved c =
    let d : DecodingState = c.args.group.now.decoding in
    let k = c.loop-row.invariant in
    let position = k.position in
    let count = k.count in
    let n : ℕ = c.loop-row.row-index in
    let rows : List (List ℕ) = map (λ r. r.items) c.args.rows.now in
    let P : ℕ → List ℕ → Type 0 = λ i segment. DecodesBlocks d.geometry d.numbers (blocks_in d.geometry (c.args.number + i) (nth rows i)) (c.args.number + i) segment in
    let row : c.deref.result.now ≡ nth rows n = c.deref.ensures.value ∙ sym (nth_item (λ r. r.items) c.args.rows.now n c.row-item.result c.loop-row-test.true c.row-item.is) in
    let one : P n c.in_ok-segment.segment.items =
    subst (λ (m : ℕ). DecodesBlocks d.geometry d.numbers (blocks_in d.geometry m (nth rows n)) m c.in_ok-segment.segment.items) position
    (subst (λ (l : List ℕ). DecodesBlocks d.geometry d.numbers (blocks_in d.geometry c.loop-row.position l) c.loop-row.position c.in_ok-segment.segment.items) row c.in_ok-segment.ensures.decodes) in
    let pushed : c.push.new.self.items ≡ c.loop-row.segments.items ++ c.in_ok-segment.segment ∷ [] = c.in_ok-push.ensures.items in
    let more = length-append c.loop-row.segments.items (c.in_ok-segment.segment ∷ []) in
    let long = ap length pushed in
    record {
      position = omega (arith, position);
      count = omega (arith, count, more, long);
      decodes = λ i low. subst (λ (l : List (Vec ℕ Global)). P i (nth (map (λ s. s.items) l) i)) (sym pushed)
          (nth_pushed (λ s. s.items) P c.loop-row.segments.items c.in_ok-segment.segment (λ j below. k.decodes j (omega (arith, count, below)))
          (subst (λ (m : ℕ). P m c.in_ok-segment.segment.items) (sym count) one) i (omega (arith, count, low)));
    }
