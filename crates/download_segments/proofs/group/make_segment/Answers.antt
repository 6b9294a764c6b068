use Rattle.std.proofs.Common.{◌≡◌, ◌∙◌, ◌+◌, ◌-◌, ◌*◌, ◌<◌, ℕ, Ok, Some, arith, ap, subst, sym, length, slice_get, slice_set}
use Rattle.lemmas.proofs.Options.{one_there}
use Rattle.lemmas.proofs.Positions.{got}
use Rattle.share_layout.specs.Geometry.{Geometry, IsGeometry, segment_count}
use Rattle.share_layout.specs.Pieces.{block_length, segment_length}
use Rattle.download_segments.proofs.HandoutLemmas.{next_within}
use Rattle.download_segments.proofs.group.make_segment.Goals as goal
use Rattle.download_segments.specs.GroupState.{GroupState, IsLast, with_end}

last_is : (c : goal.After-index) → IsLast c.args.groups.now.items c.index.result.now
last_is c =
    let n : ℕ = c.len-last.result - 1 in
    let same : n ≡ length c.args.groups.now.items - 1 = ap (λ (k : ℕ). k - 1) (c.len-last.ensures ∙ c.args.groups.now.ok.0) in
    subst (λ (k : ℕ). slice_get c.args.groups.now.items k ≡ Some c.index.result.now) same
    (got c.args.groups.now.items n c.index.result.now (let some = c.requires.some in omega (arith, same, some)) c.index.ensures)

pub decode-requires-clause-there : goal.decode-requires-clause-there
decode-requires-clause-there c =
    subst (λ (g : Geometry). c.args.number < segment_count g) (sym (c.requires.geometry c.index.result.now (last_is c)))
    (next_within c.args.handout.now c.args.number c.requires.right c.requires.next)

pub decode-requires-clause-long : goal.decode-requires-clause-long
decode-requires-clause-long c =
    c.requires.long ∙ ap (λ (g : Geometry). g.needed * block_length g c.args.number) (sym (c.requires.geometry c.index.result.now (last_is c)))

pub hand_out-requires-clause-long : goal.hand_out-requires-clause-long
hand_out-requires-clause-long c =
    let n : ℕ = c.len-last.result - 1 in
    let same : n ≡ length c.args.groups.now.items - 1 = ap (λ (k : ℕ). k - 1) (c.len-last.ensures ∙ c.args.groups.now.ok.0) in
    let last : IsLast c.args.groups.now.items c.index.result.now = subst (λ (k : ℕ). slice_get c.args.groups.now.items k ≡ Some c.index.result.now) same
    (got c.args.groups.now.items n c.index.result.now (let some = c.requires.some in omega (arith, same, some)) c.index.ensures) in
    c.in_ok-segment.ensures.length ∙ ap (λ (g : Geometry). segment_length g c.args.number) (c.requires.geometry c.index.result.now last)

pub returns-then-not-branch-clause-refuted : goal.returns-then-not-branch-clause-refuted
returns-then-not-branch-clause-refuted c =
    let n : ℕ = c.len-last.result - 1 in
    let same : n ≡ length c.args.groups.now.items - 1 = ap (λ (k : ℕ). k - 1) (c.len-last.ensures ∙ c.args.groups.now.ok.0) in
    let last : IsLast c.args.groups.now.items c.index.result.now = subst (λ (k : ℕ). slice_get c.args.groups.now.items k ≡ Some c.index.result.now) same
    (got c.args.groups.now.items n c.index.result.now (let some = c.requires.some in omega (arith, same, some)) c.index.ensures) in
    let is = c.if-not-branch.true in
    λ _. record {
      group = c.index.result.now;
      last = last;
      segment = c.in_ok-segment.segment.items;
      decodes = c.in_ok-segment.ensures.decodes;
      refuted = c.in_ok-hand_out.ensures.refuted (ap Ok is);
    }

pub overflow_add-number : goal.overflow_add-number
overflow_add-number c =
    let there = next_within c.args.handout.now c.args.number c.requires.right c.requires.next in
    let few = (subst IsGeometry c.requires.right.roots.geometry c.requires.right.trees.valid).few in
    omega (arith, there, few)

pub returns-clause-made : goal.returns-clause-made
returns-clause-made c =
    let n : ℕ = c.len-last.result - 1 in
    let same : n ≡ length c.args.groups.now.items - 1 = ap (λ (k : ℕ). k - 1) (c.len-last.ensures ∙ c.args.groups.now.ok.0) in
    let last : IsLast c.args.groups.now.items c.index.result.now = subst (λ (k : ℕ). slice_get c.args.groups.now.items k ≡ Some c.index.result.now) same
    (got c.args.groups.now.items n c.index.result.now (let some = c.requires.some in omega (arith, same, some)) c.index.ensures) in
    let one : c.index.result.now ≡ c.index_mut.result.now =
    one_there (slice_get c.args.groups.now.items n) c.index.result.now c.index_mut.result.now
    (got c.args.groups.now.items n c.index.result.now (let some = c.requires.some in omega (arith, same, some)) c.index.ensures)
    (got c.args.groups.now.items n c.index_mut.result.now (let some = c.requires.some in omega (arith, same, some)) c.index_mut.ensures.value) in
    λ _. record {
      group = c.index.result.now;
      last = last;
      segment = c.in_ok-segment.segment.items;
      decodes = c.in_ok-segment.ensures.decodes;
      proved = c.in_ok-hand_out.ensures.proved.0 c.if-not-branch.false;
      handed = c.in_ok-hand_out.ensures.handed (ap Ok c.if-not-branch.false);
      groups_are = λ i. slice_set c.args.groups.now.items (same i) ((c.reach.ensures ∙ ap (λ (g : GroupState). with_end g (c.args.number + 1)) (sym one)) i);
    }
