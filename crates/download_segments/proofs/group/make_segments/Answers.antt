use Rattle.std.proofs.Common.{◌≡◌, ◌∙◌, ◌+◌, ◌-◌, ◌*◌, ◌<◌, ℕ, Ok, Some, map, arith, ap, subst, sym, refl, true, length, slice_get, slice_set}
use Rattle.std.proofs.lemmas.Bool.{true≢false}
use Rattle.lemmas.proofs.Options.{one_there}
use Rattle.lemmas.proofs.Positions.{got}
use Rattle.share_layout.specs.Geometry.{Geometry, segment_count}
use Rattle.share_layout.specs.Pieces.{block_length, segment_length}
use Rattle.download_segments.proofs.HandoutLemmas.{valid_of}
use Rattle.download_segments.proofs.RowLemmas.{row_length, row_there}
use Rattle.download_segments.proofs.group.make_segments.Goals as goal
use Rattle.download_segments.specs.GroupState.{GroupState, IsLast, with_end}
use Rattle.download_segments.proofs.GroupRowLemmas.{from_nth}

last_is : (c : goal.After-index) → IsLast c.args.groups.now.items c.index.result.now
last_is c =
    let n : ℕ = c.len-last.result - 1 in
    let same : n ≡ length c.args.groups.now.items - 1 = ap (λ (k : ℕ). k - 1) (c.len-last.ensures ∙ c.args.groups.now.ok.0) in
    subst (λ (k : ℕ). slice_get c.args.groups.now.items k ≡ Some c.index.result.now) same
    (got c.args.groups.now.items n c.index.result.now (let some = c.requires.some in omega (arith, same, some)) c.index.ensures)

pub decode_row-requires-clause-there : goal.decode_row-requires-clause-there
decode_row-requires-clause-there c = λ i low.
    subst (λ (g : Geometry). c.args.number + i < segment_count g) (sym (c.requires.geometry c.index.result.now (last_is c)))
    (row_there c.args.handout.now c.args.number i c.requires.right c.requires.wanted low)

pub decode_row-requires-clause-long : goal.decode_row-requires-clause-long
decode_row-requires-clause-long c = λ i low.
    c.requires.long i low ∙ ap (λ (g : Geometry). g.needed * block_length g (c.args.number + i)) (sym (c.requires.geometry c.index.result.now (last_is c)))

pub hand_out_row-requires-clause-long : goal.hand_out_row-requires-clause-long
hand_out_row-requires-clause-long c =
    let n : ℕ = c.len-last.result - 1 in
    let same : n ≡ length c.args.groups.now.items - 1 = ap (λ (k : ℕ). k - 1) (c.len-last.ensures ∙ c.args.groups.now.ok.0) in
    let last : IsLast c.args.groups.now.items c.index.result.now = subst (λ (k : ℕ). slice_get c.args.groups.now.items k ≡ Some c.index.result.now) same
    (got c.args.groups.now.items n c.index.result.now (let some = c.requires.some in omega (arith, same, some)) c.index.ensures) in
    let eight = c.in_ok-segments.ensures.eight in
    from_nth (λ s. s.items) (λ l. length l ≡ c.args.handout.now.geometry.segment_size) c.in_ok-segments.segments.items
    (λ i low.
    let below : i < 8 = omega (arith, low, eight) in
    (c.in_ok-segments.ensures.decodes i below).long ∙ ap (λ (g : Geometry). segment_length g (c.args.number + i)) (c.requires.geometry c.index.result.now last)
    ∙ row_length c.args.handout.now c.args.number i c.requires.right c.requires.wanted below)

pub returns-then-not-branch-clause-same : goal.returns-then-not-branch-clause-same
returns-then-not-branch-clause-same c = λ _. (c.in_ok-hand_out_row.ensures.same (λ e. true≢false (let k : c.in_ok-hand_out_row.field-0 ≡ true = cc in sym k ∙ c.if-not-branch.true)), refl)

pub returns-then-not-branch-clause-refuted : goal.returns-then-not-branch-clause-refuted
returns-then-not-branch-clause-refuted c = λ _.
    let n : ℕ = c.len-last.result - 1 in
    let same : n ≡ length c.args.groups.now.items - 1 = ap (λ (k : ℕ). k - 1) (c.len-last.ensures ∙ c.args.groups.now.ok.0) in
    record {
      group = c.index.result.now;
      last = subst (λ (k : ℕ). slice_get c.args.groups.now.items k ≡ Some c.index.result.now) same
          (got c.args.groups.now.items n c.index.result.now (let some = c.requires.some in omega (arith, same, some)) c.index.ensures);
      segments = map (λ s. s.items) c.in_ok-segments.segments.items;
      decodes = c.in_ok-segments.ensures.decodes;
      refuted = λ all. true≢false (sym (c.in_ok-hand_out_row.ensures.proved.1 all) ∙ c.if-not-branch.true);
    }

pub overflow_add-number : goal.overflow_add-number
overflow_add-number c =
    let there = row_there c.args.handout.now c.args.number 7 c.requires.right c.requires.wanted (omega arith) in
    let few = (valid_of c.args.handout.now c.requires.right).few in
    omega (arith, there, few)

pub returns-clause-made : goal.returns-clause-made
returns-clause-made c =
    let n : ℕ = c.len-last.result - 1 in
    let same : n ≡ length c.args.groups.now.items - 1 = ap (λ (k : ℕ). k - 1) (c.len-last.ensures ∙ c.args.groups.now.ok.0) in
    let last : IsLast c.args.groups.now.items c.index.result.now = subst (λ (k : ℕ). slice_get c.args.groups.now.items k ≡ Some c.index.result.now) same
    (got c.args.groups.now.items n c.index.result.now (let some = c.requires.some in omega (arith, same, some)) c.index.ensures) in
    let one : c.index.result.now ≡ c.index_mut.result.now =
    one_there (slice_get c.args.groups.now.items n) c.index.result.now c.index_mut.result.now
    (got c.args.groups.now.items n c.index.result.now (let some = c.requires.some in omega (arith, same, some)) c.index.ensures)
    (got c.args.groups.now.items n c.index_mut.result.now (let some = c.requires.some in omega (arith, same, some)) c.index_mut.ensures.value) in
    λ _. record {
      group = c.index.result.now;
      last = last;
      segments = map (λ s. s.items) c.in_ok-segments.segments.items;
      decodes = c.in_ok-segments.ensures.decodes;
      proved = c.in_ok-hand_out_row.ensures.proved.0 c.if-not-branch.false;
      handed = c.in_ok-hand_out_row.ensures.handed (ap Ok c.if-not-branch.false);
      groups_are = λ i. slice_set c.args.groups.now.items (same i) ((c.reach.ensures ∙ ap (λ (g : GroupState). with_end g (c.args.number + 8)) (sym one)) i);
    }
