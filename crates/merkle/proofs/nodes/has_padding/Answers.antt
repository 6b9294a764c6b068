use Rattle.std.proofs.Common.{◌+◌, ◌^◌, ◌≤◌, sym, refl, ◌∙◌, inl, inr, arith}
use Rattle.std.proofs.Math.Nat.{pow-le-pow_right}
use Rattle.std.proofs.lemmas.Bool.{cases_lt, true≢false}
use Rattle.std.proofs.lemmas.Nat.{one_shl}
use Rattle.lemmas.proofs.Numbers.{next_power}
use Rattle.merkle.specs.Tree.{height}
use Rattle.merkle.proofs.HeightLemmas.{height_low}
use Rattle.merkle.proofs.OwnRows.{own_before_end, padding_from_end}
use Rattle.merkle.proofs.PaddingLemmas.{is_padding-inside}
use Rattle.merkle.proofs.nodes.has_padding.Goals as goal

pub returns-then-not-are_same : goal.returns-then-not-are_same
returns-then-not-are_same c =
    let n = c.args.leaf_count in
    let row = c.loop-row.row in
    let low = height_low _ c.height-row-end.result 20 c.requires.few c.height-row-end.ensures.least in
    let end = one_shl (row + 1) 64 (omega (arith, low, c.loop-row-test.true)) in
    let within : row ≤ height n = omega (arith, c.loop-row-test.true, c.height-row-end.ensures.value) in (
      λ yes. absurd (true≢false (sym yes)),
      λ held. absurd (true≢false (sym (c.are_same.ensures.1 (λ i from to.
          let is = padding_from_end n c.requires.some row within i (omega (arith, from, c.own_end.ensures.value)) (omega (arith, to, end, next_power row))
          (omega (arith, from, c.own_end.ensures.value)) in
          held i is ∙ sym (c.requires.padding i is))) ∙ c.if-not-are_same.true)),
    )

pub loop-row-preserved : goal.loop-row-preserved
loop-row-preserved c = λ number below is.
    let n = c.args.leaf_count in
    let row = c.loop-row.row in
    let low = height_low _ c.height-row-end.result 20 c.requires.few c.height-row-end.ensures.least in
    let end = one_shl (row + 1) 64 (omega (arith, low, c.loop-row-test.true)) in
    let within : row ≤ height n = omega (arith, c.loop-row-test.true, c.height-row-end.ensures.value) in
    elim (cases_lt (number + 1) (2 ^ row)) [
      | inl before ↦ c.loop-row.invariant number before is
      | inr from ↦ elim (cases_lt number c.own_end.result) [
        | inl own ↦
            absurd (true≢false (sym is ∙ own_before_end n c.requires.some row within number from (omega (arith, below, next_power row)) (omega (arith, own, c.own_end.ensures.value))))
        | inr behind ↦ c.are_same.ensures.0 c.if-not-are_same.false number behind (omega (arith, below, end)) ∙ c.requires.padding number is
      ]
    ]

pub returns : goal.returns
returns c =
    let n = c.args.leaf_count in (
      λ yes number is. c.loop-row.invariant number (omega (arith, is_padding-inside n number is, next_power (height n), pow-le-pow_right {n = 2} (omega arith) {i = height n + 1} {j = c.loop-row.row} (omega (arith, c.loop-row-test.false, c.height-row-end.ensures.value)))) is,
      λ held. refl,
    )
