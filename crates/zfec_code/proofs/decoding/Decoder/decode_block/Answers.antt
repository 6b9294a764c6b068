use Rattle.std.proofs.Common.{◌≡◌, ◌<◌, ◌≤◌, ◌+◌, ◌*◌, ◌-◌, length, map, get_or, drop, ap, sym, subst, ◌∙◌, arith, mul-le-mul, below_more, length-take}
use Rattle.std.specs.List.{slice_range}
use Rattle.zfec_code.specs.Field.{point_of}
use Rattle.zfec_code.specs.Shares.{evaluate}
use Rattle.zfec_code.specs.Tables.{IsThrough}
use Rattle.zfec_code.proofs.ShareBlocks.{value_of_row}
use Rattle.zfec_code.proofs.ShareLists.{absent_number, no_share, number_at, block_at, length-numbers}
use Rattle.zfec_code.proofs.decoding.Decoder.decode_block.Goals as goal

pub returns-then-from-primary : goal.returns-then-from-primary
returns-then-from-primary c t h coefficients through =
    let i = c.loop-number.number-index in
    let xs = c.args.shares.now in
    let within : c.loop-number.number-index < length c.args.shares.now = c.loop-number-test.true in
    let number : get_or (map (λ s. s.0) c.args.shares.now) c.loop-number.number-index 0 ≡ c.args.primary =
    number_at xs i _ within ∙ sym c.from.ensures ∙ c.if-from-primary.true in
    let block = block_at xs i _ within ∙ sym c.copy_from_slice.ensures.after in
    sym (ap (λ b. get_or b t 0) block) ∙ sym (through.through i (omega (arith, length-numbers xs)))
    ∙ ap (λ n. evaluate coefficients (point_of n)) number

pub loop-number-preserved : goal.loop-number-preserved
loop-number-preserved c =
    below_more _ _ c.loop-number.invariant
    (λ e. c.if-from-primary.false (c.from.ensures ∙ sym (number_at c.args.shares.now c.loop-number.number-index _ c.loop-number-test.true) ∙ e))

pub overflow_mul-start : goal.overflow_mul-start
overflow_mul-start c =
    let count : length c.self.inside.numbers.items ≡ length c.args.self.now = ap length c.self.view_is in
    let few : c.len-k.result ≤ 256 = omega (arith, c.len-k.ensures, c.self.invariant.few) in
    let low : c.args.primary < 256 = omega (arith, c.requires.in_range, count, c.self.invariant.few) in
    let le : c.args.primary * c.len-k.result ≤ 256 * 256 = mul-le-mul (let a : c.args.primary ≤ 256 = omega arith in a) few in
    omega (arith, le)

pub combine-requires-clause-lengths : goal.combine-requires-clause-lengths
combine-requires-clause-lengths c j within =
    let count : length c.self.inside.numbers.items ≡ length c.args.self.now = ap length c.self.view_is in
    let shares : length c.args.shares.now ≡ length c.args.self.now = sym (length-numbers c.args.shares.now) ∙ ap length c.requires.numbers in
    let few = length-take (c.args.primary * c.len-k.result + c.len-k.result - c.args.primary * c.len-k.result) (drop (c.args.primary * c.len-k.result) c.deref.result.now) in
    let below : j < length c.args.shares.now = omega (arith, few, within, c.len-k.ensures, count, shares) in
    c.loop-number.auto.block ∙ sym (ap length (block_at c.args.shares.now j no_share below) ∙ c.requires.lengths j no_share below)

pub returns : goal.returns
returns c t h coefficients through =
    let numbers = c.self.inside.numbers.items in
    let k : c.len-k.result ≡ length c.self.inside.numbers.items = omega (arith, c.len-k.ensures) in
    let same : map (λ s. s.0) c.args.shares.now ≡ c.self.inside.numbers.items = c.requires.numbers ∙ sym c.self.view_is in
    let shares : length c.args.shares.now ≡ length c.self.inside.numbers.items = sym (length-numbers c.args.shares.now) ∙ ap length same in
    let count : length c.self.inside.numbers.items ≡ length c.args.self.now = ap length c.self.view_is in
    let absent = absent_number numbers c.args.primary
    (λ p l e. c.loop-number.invariant p (omega (arith, shares, c.loop-number-test.false)) (ap (λ ns. get_or ns p 0) same ∙ e)) in
    c.combine.ensures.sums t h
    ∙ value_of_row numbers c.self.inside.rows.items c.args.primary (map (λ s. s.1.now) c.args.shares.now) t coefficients _ c.self.invariant
    (omega (arith, c.requires.in_range, count)) absent
    (λ i. slice_range (c.deref.ensures.value i) (c.args.primary * k i) (c.args.primary * k i + k i))
    c.combine.ensures.bytes
    (subst (λ ns. IsThrough coefficients ns (map (λ s. s.1.now) c.args.shares.now) t) same through)
