use Rattle.std.proofs.Common.{◌≡◌, ℕ, ◌+◌, ◌-◌, ◌≤◌, List, length, take, drop, map, ap, refl, sym, ◌∙◌, arith}
use Rattle.std.proofs.lemmas.Grind.{common_steps}
use Rattle.std.proofs.lemmas.List.{get_or_default, length-append, length-take-le}
use Rattle.tagged_hash.specs.TaggedHash.{tagged_hash}
use Rattle.tagged_hash.specs.declared.tag.Tag.TheVariants.{CiphertextSegment}
use Rattle.share_layout.specs.Pieces.{segment_length}
use Rattle.proved_parts.proofs.Cover.{covers}
use Rattle.file_encoding.proofs.PaddedBelow.{padded_all, padded_leaves_are, padded_more}
use Rattle.file_encoding.proofs.decoding.decode_padded.Goals as goal

pub slice_bounds-is_leaf-end : goal.slice_bounds-is_leaf-end
slice_bounds-is_leaf-end c =
    let pushed = c.in_ok-push_padded.ensures in
    let over = covers c.args.geometry.now c.loop-number.number c.needed.ensures.valid in
    omega (arith, ap length pushed.1, length-append c.loop-number.text.items pushed.0, pushed.2, over, c.segment_length-length.ensures.value, c.len-start.ensures, c.deref.ensures.len)

pub returns-then-not-is_leaf-clause-inconsistent : goal.returns-then-not-is_leaf-clause-inconsistent
returns-then-not-is_leaf-clause-inconsistent c = λ _.
    let g = c.args.geometry.now in
    let number : ℕ = c.loop-number.number in
    let pushed = c.in_ok-push_padded.ensures in
    let padded : List ℕ = pushed.0 in
    let start : ℕ = c.len-start.result in
    let cut : ℕ = c.segment_length-length.result in
    let over = covers g number c.needed.ensures.valid in
    let fits : segment_length g number ≤ length padded = omega (arith, over, pushed.2) in
    let rest : drop start c.deref.result.now ≡ padded = grind (arith, common_steps, c.deref.ensures.value, pushed.1) in
    let here : start + cut - start ≡ segment_length g number = omega (arith, c.segment_length-length.ensures.value) in
    let shown : take (start + cut - start) (drop start c.deref.result.now) ≡ take (segment_length g number) padded = λ i. take (here i) (rest i) in
    record {
      number = number;
      there = omega (arith, c.loop-number-test.true, c.segment_count-number-end.ensures.value);
      segment = take (segment_length g number) padded;
      decodes = record { padded = padded; whole = pushed.2; shares = pushed.3; cut = refl; long = length-take-le (segment_length g number) padded fits };
      wrong = λ e. (let yes = c.is_leaf.ensures.1 (ap (tagged_hash CiphertextSegment) shown ∙ e ∙ sym (get_or_default c.args.leaves.now number _ _ (omega (arith, c.loop-number-test.true, c.segment_count-number-end.ensures.value, c.requires.leaves)))) in let no = c.if-not-is_leaf.true in absurd cc);
    }

pub loop-number-preserved : goal.loop-number-preserved
loop-number-preserved c =
    let g = c.args.geometry.now in
    let number : ℕ = c.loop-number.number in
    let pushed = c.in_ok-push_padded.ensures in
    let padded : List ℕ = pushed.0 in
    let start : ℕ = c.len-start.result in
    let cut : ℕ = c.segment_length-length.result in
    let rest : drop start c.deref.result.now ≡ padded = grind (arith, common_steps, c.deref.ensures.value, pushed.1) in
    let here : start + cut - start ≡ segment_length g number = omega (arith, c.segment_length-length.ensures.value) in
    let shown : take (start + cut - start) (drop start c.deref.result.now) ≡ take (segment_length g number) padded = λ i. take (here i) (rest i) in
    padded_more g (map (λ s. s.0) c.args.blocks.now) (map (λ s. s.1.now) c.args.blocks.now) c.args.leaves.now number
    c.loop-number.text.items padded _ c.needed.ensures.valid (omega (arith, c.loop-number-test.true, c.segment_count-number-end.ensures.value)) c.loop-number.invariant
    pushed.2 pushed.3
    (ap (tagged_hash CiphertextSegment) (sym shown) ∙ c.is_leaf.ensures.0 c.if-not-is_leaf.false ∙ get_or_default c.args.leaves.now number _ _ (omega (arith, c.loop-number-test.true, c.segment_count-number-end.ensures.value, c.requires.leaves)))
    pushed.1

pub returns-clause-decoded : goal.returns-clause-decoded
returns-clause-decoded c =
    padded_all c.args.geometry.now (map (λ s. s.0) c.args.blocks.now) (map (λ s. s.1.now) c.args.blocks.now) c.args.leaves.now c.loop-number.number c.loop-number.text.items
    c.needed.ensures.valid (let past = c.loop-number.auto.number-end in omega (arith, past, c.loop-number-test.false, c.segment_count-number-end.ensures.value)) c.loop-number.invariant

pub returns-clause-leaves : goal.returns-clause-leaves
returns-clause-leaves c =
    padded_leaves_are c.args.geometry.now (map (λ s. s.0) c.args.blocks.now) (map (λ s. s.1.now) c.args.blocks.now) c.args.leaves.now c.loop-number.number c.loop-number.text.items
    c.requires.leaves (let past = c.loop-number.auto.number-end in omega (arith, past, c.loop-number-test.false, c.segment_count-number-end.ensures.value)) c.loop-number.invariant
