use Rattle.std.proofs.Common.{◌+◌, ◌^◌, ◌≤◌, sym, refl, ◌∙◌, inl, inr, arith}
use Rattle.std.proofs.Math.Nat.{pow-le-pow_right}
use Rattle.std.proofs.lemmas.Bool.{cases_lt, true≢false}
use Rattle.std.proofs.lemmas.Nat.{one_shl}
use Rattle.lemmas.proofs.Numbers.{next_power}
use Rattle.merkle.specs.Tree.{height}
use Rattle.merkle.proofs.HeightLemmas.{height_low}
use Rattle.merkle.proofs.OwnRows.{children_within, padding_from_end, pairs_from_own}
use Rattle.merkle.proofs.nodes.are_own_pairs.Goals as goal

pub are_pairs_between-requires-clause-inside : goal.are_pairs_between-requires-clause-inside
are_pairs_between-requires-clause-inside c =
    children_within (height c.args.leaf_count) c.loop-row.row c.own_end.result _ (omega (arith, c.loop-row-test.true, c.height-row-end.ensures.value)) c.own_end.ensures.inside c.requires.nodes

pub returns-then-not-are_pairs_between : goal.returns-then-not-are_pairs_between
returns-then-not-are_pairs_between c =
    let within = children_within (height c.args.leaf_count) c.loop-row.row c.own_end.result _ (omega (arith, c.loop-row-test.true, c.height-row-end.ensures.value)) c.own_end.ensures.inside c.requires.nodes in (
      λ yes. absurd (true≢false (sym yes)),
      λ pairs. absurd (true≢false (sym (c.are_pairs_between.ensures.1 (λ i from to. pairs i (omega (arith, to, within)))) ∙ c.if-not-are_pairs_between.true)),
    )

pub loop-row-preserved : goal.loop-row-preserved
loop-row-preserved c = λ i below other.
    let n = c.args.leaf_count in
    let row = c.loop-row.row in
    let low = height_low _ c.height-row-end.result 20 c.requires.few c.height-row-end.ensures.least in
    let first = one_shl row 64 (omega (arith, low, c.loop-row-test.true)) in
    elim (cases_lt (i + 1) (2 ^ row)) [
      | inl before ↦ c.loop-row.invariant i before other
      | inr from ↦ elim (cases_lt i c.own_end.result) [
        | inl own ↦ c.are_pairs_between.ensures.0 c.if-not-are_pairs_between.false i (omega (arith, from, first)) own
        | inr behind ↦
            let within : row ≤ height n = omega (arith, c.loop-row-test.true, c.height-row-end.ensures.value) in
            absurd (true≢false (sym (padding_from_end n c.requires.some row within i from (omega (arith, below, next_power row)) (omega (arith, behind, c.own_end.ensures.value))) ∙ other))
      ]
    ]

pub returns : goal.returns
returns c =
    let n = c.args.leaf_count in (
      λ yes. pairs_from_own n c.args.nodes.now c.requires.nodes c.requires.padding
          (λ i below other. c.loop-row.invariant i (omega (arith, below, pow-le-pow_right {n = 2} (omega arith) {i = height n} {j = c.loop-row.row} (omega (arith, c.loop-row-test.false, c.height-row-end.ensures.value)))) other),
      λ pairs. refl,
    )
