use Rattle.std.proofs.Common.{◌≡◌, ℕ, ◌*◌, List, Bor, length, map, take, refl, ap, subst, sym, ◌∙◌, arith}
use Rattle.std.specs.Prelude.{slice_index}
use Rattle.std.specs.Vec.{with_items}
use Rattle.std.proofs.lemmas.List.{length-map, with_items_is}
use Rattle.zfec_code.specs.Shares.{HaveSize}
use Rattle.share_layout.specs.Pieces.{pieces}
use Rattle.share_source.specs.Candidates.{picked_numbers}
use Rattle.share_source.proofs.Blocks.{have_size, shares_by}
use Rattle.share_source.proofs.segment.decode.Goals as goal

pub decode_pairs-requires-clause-lengths : goal.decode_pairs-requires-clause-lengths
decode_pairs-requires-clause-lengths c =
    let r = c.requires.reading in
    let size : ℕ = c.args.size in
    let count : ℕ = c.from-count.result in
    let joined : List ℕ = c.args.reading.now.blocks.items in
    let pairs : List (ℕ × Bor (List ℕ)) = c.pair_blocks-pairs.result in
    let needed : count ≡ c.args.reading.now.geometry.needed = c.from-count.ensures ∙ c.needed.ensures.value in
    let numbers : length c.args.reading.now.decoder ≡ count = ap length r.decoder ∙ r.numbers.enough ∙ sym needed in
    let same : length c.deref.result.now ≡ count = ap length c.deref.ensures.value ∙ sym (length-map c.args.reading.now.positions.items (slice_index c.args.numbers.now)) ∙ r.numbers.enough ∙ sym needed in
    let blocks : map (λ s. s.1.now) (take count pairs) ≡ pieces count size joined =
    ap (λ n. map (λ s. s.1.now) (take n pairs)) (sym same) ∙ c.pair_blocks-pairs.ensures.blocks ∙ (λ q. pieces (same q) size (c.deref-2.ensures.value q)) in
    let times : count * size ≡ c.args.reading.now.geometry.needed * size = ap (λ n. n * size) needed in (
      size,
      subst (λ n. HaveSize n size (map (λ s. s.1.now) (take count pairs)) (count * size)) (sym numbers)
          (subst (λ (bs : List (List ℕ)). HaveSize count size bs (count * size)) (sym blocks)
          (have_size count size (count * size) joined (omega (arith, times, c.requires.room, r.blocks)) refl)),
    )

pub returns-clause-reading : goal.returns-clause-reading
returns-clause-reading c =
    let r = c.requires.reading in
    let now : (with_items c.args.reading.now.segment c.decode_pairs.new.out).items ≡ c.decode_pairs.new.out =
    with_items_is c.args.reading.now.segment c.decode_pairs.new.out (omega (arith, c.decode_pairs.auto.out, ap length c.deref_mut.ensures.value, c.args.reading.now.segment.ok.0)) in
    record {
      range = r.range;
      there = r.there;
      numbers = r.numbers;
      decoder = r.decoder;
      code = r.code;
      blocks = r.blocks;
      segment = ap length now ∙ c.decode_pairs.auto.out ∙ ap length c.deref_mut.ensures.value ∙ r.segment;
    }

pub returns-clause-shares : goal.returns-clause-shares
returns-clause-shares c =
    let r = c.requires.reading in
    let size : ℕ = c.args.size in
    let count : ℕ = c.from-count.result in
    let g = c.args.reading.now.geometry in
    let joined : List ℕ = c.args.reading.now.blocks.items in
    let pairs : List (ℕ × Bor (List ℕ)) = c.pair_blocks-pairs.result in
    let made : List ℕ = c.decode_pairs.new.out in
    let now : (with_items c.args.reading.now.segment made).items ≡ made =
    with_items_is c.args.reading.now.segment made (omega (arith, c.decode_pairs.auto.out, ap length c.deref_mut.ensures.value, c.args.reading.now.segment.ok.0)) in
    let needed : count ≡ g.needed = c.from-count.ensures ∙ c.needed.ensures.value in
    let same : length c.deref.result.now ≡ count = ap length c.deref.ensures.value ∙ sym (length-map c.args.reading.now.positions.items (slice_index c.args.numbers.now)) ∙ r.numbers.enough ∙ sym needed in
    let numbers : map (λ s. s.0) (take count pairs) ≡ picked_numbers c.args.numbers.now c.args.reading.now.positions.items =
    ap (λ n. map (λ s. s.0) (take n pairs)) (sym same) ∙ c.pair_blocks-pairs.ensures.numbers ∙ ap (picked_numbers c.args.numbers.now) c.deref.ensures.value in
    let blocks : map (λ s. s.1.now) (take count pairs) ≡ pieces g.needed size joined =
    ap (λ n. map (λ s. s.1.now) (take n pairs)) (sym same) ∙ c.pair_blocks-pairs.ensures.blocks ∙ (λ q. pieces (same q) size (c.deref-2.ensures.value q)) ∙ ap (λ n. pieces n size joined) needed in
    shares_by (length c.args.reading.now.decoder) g.needed (take (count * size) made) (take (count * size) (with_items c.args.reading.now.segment made).items)
    (map (λ s. s.0) (take count pairs)) (picked_numbers c.args.numbers.now c.args.reading.now.positions.items) (map (λ s. s.1.now) (take count pairs)) (pieces g.needed size joined)
    (ap length r.decoder ∙ r.numbers.enough) (ap (take (count * size)) (sym now)) numbers blocks c.decode_pairs.ensures
