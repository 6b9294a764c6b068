use Rattle.std.proofs.Common.{◌≡◌, ℕ, ◌+◌, ◌-◌, ◌^◌, [], length, get_or, inl, inr, ap, subst, sym, ◌∙◌, arith}
use Rattle.std.proofs.lemmas.Nat.{one_shl}
use Rattle.merkle.specs.Tree.{height}
use Rattle.merkle.proofs.HeightLemmas.{height_low}
use Rattle.merkle.proofs.BesideLemmas.{AreBuiltFrom, all_rows, leaves_put, row_built}
use Rattle.merkle.proofs.OwnRows.{children_within}
use Rattle.merkle.proofs.beside.fill_beside.Goals as goal

pub loop-row-init : goal.loop-row-init
loop-row-init c =
    let leaves = c.args.leaves.now in
    let h = c.height-row in
    let low = height_low _ h.result 20 c.requires.few h.ensures.least in
    let first = one_shl h.result 64 (omega (arith, low)) ∙ ap (λ (k : ℕ). 2 ^ k) h.ensures.value in
    let e = c.put_leaves.ensures in
    subst (AreBuiltFrom leaves c.put_leaves.new.nodes) (sym h.ensures.value)
    (leaves_put leaves c.args.nodes.now c.put_leaves.new.nodes c.requires.some e.long c.requires.nodes c.requires.padding
    (λ k below. subst (λ (p : ℕ). get_or c.put_leaves.new.nodes (p - 1 + k) [] ≡ get_or leaves k []) first (e.made k below))
    (λ k apart. elim apart [
      | inl above ↦ e.others k (inl (omega (arith, above, first)))
      | inr behind ↦ e.others k (inr (omega (arith, behind, first)))
    ]))

pub fill_between-requires-clause-inside : goal.fill_between-requires-clause-inside
fill_between-requires-clause-inside c =
    children_within (height (length c.args.leaves.now)) (c.loop-row.row - 1) c.own_end.result _ (omega (arith, c.loop-row-test.true, c.loop-row.invariant.low)) c.own_end.ensures.inside c.loop-row.invariant.full

pub loop-row-preserved : goal.loop-row-preserved
loop-row-preserved c =
    let leaves = c.args.leaves.now in
    let l = c.loop-row in
    let row : ℕ = l.row - 1 in
    let h = c.height-row in
    let low = height_low _ h.result 20 c.requires.few h.ensures.least in
    let first = one_shl row 64 (omega (arith, low, l.invariant.low, h.ensures.value)) in
    let next : l.row ≡ row + 1 = omega (arith, c.loop-row-test.true) in
    let e = c.fill_between.ensures in
    row_built leaves l.nodes c.fill_between.new.nodes c.requires.some e.long row (omega (arith, c.loop-row-test.true, l.invariant.low))
    (subst (AreBuiltFrom leaves l.nodes) next l.invariant)
    (λ k from to. e.made k (omega (arith, from, first)) (omega (arith, to, c.own_end.ensures.value)))
    (λ k apart. elim apart [
      | inl above ↦ e.others k (inl (omega (arith, above, first)))
      | inr behind ↦ e.others k (inr (omega (arith, behind, c.own_end.ensures.value)))
    ])

pub returns : goal.returns
returns c =
    let none : c.loop-row.row ≡ 0 = omega (arith, c.loop-row-test.false) in
    all_rows c.args.leaves.now c.loop-row.nodes (subst (AreBuiltFrom c.args.leaves.now c.loop-row.nodes) none c.loop-row.invariant)
