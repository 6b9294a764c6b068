use Rattle.std.proofs.Common.{◌≡◌, ◌+◌, ◌^◌, ℕ, ap, sym, arith}
use Rattle.std.proofs.lemmas.Nat.{one_shl}
use Rattle.lemmas.proofs.Numbers.{next_power}
use Rattle.merkle.specs.Tree.{height}
use Rattle.merkle.proofs.HeightLemmas.{height_low}
use Rattle.merkle.proofs.PaddingLemmas.{begins_computed, is_padding-outside, tested}
use Rattle.merkle.proofs.padding.is_padding.Goals as goal

pub overflow_shl-height : goal.overflow_shl-height
overflow_shl-height c =
    let low = height_low _ c.height-height.result 20 c.requires.few c.height-height.ensures.least in omega (arith, low)

pub returns-then-number-height : goal.returns-then-number-height
returns-then-number-height c =
    let h = c.height-height in
    let low = height_low _ h.result 20 c.requires.few h.ensures.least in
    let cut = one_shl (h.result + 1) 32 (omega (arith, low)) in
    let same : 2 ^ (h.result + 1) ≡ 2 ^ (height c.args.leaf_count + 1) = ap (λ (k : ℕ). 2 ^ (k + 1)) h.ensures.value in
    sym (is_padding-outside c.args.leaf_count c.args.number (omega (arith, cut, same, next_power (height c.args.leaf_count), c.if-number-height.true)))

pub overflow_sub-position : goal.overflow_sub-position
overflow_sub-position c =
    let h = c.height-height in
    let r = c.height-row in
    let low = height_low _ h.result 20 c.requires.few h.ensures.least in
    begins_computed c.args.leaf_count c.args.number h.result r.result low h.ensures.value r.ensures.value c.if-number-height.false r.ensures.room r.ensures.least

pub returns : goal.returns
returns c =
    let h = c.height-height in
    let r = c.height-row in
    let low = height_low _ h.result 20 c.requires.few h.ensures.least in
    tested c.args.leaf_count c.args.number h.result r.result low h.ensures.value r.ensures.value c.if-number-height.false r.ensures.room r.ensures.least
