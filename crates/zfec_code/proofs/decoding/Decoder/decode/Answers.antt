use Rattle.std.proofs.Common.{◌≡◌, ◌*◌, ◌/◌, ◌<◌, [], length, map, ap, sym, subst, ◌∙◌, arith}
use Rattle.std.specs.Prelude.{All}
use Rattle.zfec_code.specs.Rows.{AreDistinct}
use Rattle.zfec_code.specs.Shares.{AreSharesOf}
use Rattle.zfec_code.proofs.ShareBlocks.{WrittenBelow, WrittenBelow-more, length-part, primaries_unique, shares_of_written}
use Rattle.zfec_code.proofs.ShareLists.{length-blocks, quotient_from_whole, shares_alike}
use Rattle.zfec_code.proofs.decoding.Decoder.decode.Goals as goal

pub decode_block-requires-clause-lengths : goal.decode_block-requires-clause-lengths
decode_block-requires-clause-lengths c =
    let xs = c.args.shares.now in
    let have = c.requires.lengths in
    let k = c.len-k.result in
    let seen : length c.self.inside.numbers.items ≡ length c.args.self.now = ap length c.self.view_is in
    let count : c.len-k.result ≡ length c.args.self.now = omega (arith, c.len-k.ensures, seen) in
    let whole : length c.args.out.now ≡ c.len-k.result * have.0 = have.1.whole ∙ ap (λ n. n * have.0) (sym count) in
    let size : length c.args.out.now / c.len-k.result ≡ have.0 = quotient_from_whole k have.0 (length c.args.out.now) (omega (arith, c.if-k-eq0.false)) whole in
    λ i d h.
    shares_alike xs have.0 have.1.alike i d h
    ∙ sym size
    ∙ sym (length-part c.loop-primary.out c.loop-primary.primary (length c.args.out.now / c.len-k.result) k
    (c.loop-primary.auto.out ∙ whole ∙ ap (λ n. k * n) (sym size)) c.loop-primary-test.true)

pub loop-primary-preserved : goal.loop-primary-preserved
loop-primary-preserved c =
    let have = c.requires.lengths in
    let k = c.len-k.result in
    let seen : length c.self.inside.numbers.items ≡ length c.args.self.now = ap length c.self.view_is in
    let count : c.len-k.result ≡ length c.args.self.now = omega (arith, c.len-k.ensures, seen) in
    let whole : length c.args.out.now ≡ c.len-k.result * have.0 = have.1.whole ∙ ap (λ n. n * have.0) (sym count) in
    let size : length c.args.out.now / c.len-k.result ≡ have.0 = quotient_from_whole k have.0 (length c.args.out.now) (omega (arith, c.if-k-eq0.false)) whole in
    let long = c.loop-primary.auto.out ∙ whole ∙ ap (λ n. k * n) (sym size) in
    WrittenBelow-more (map (λ s. s.0) c.args.shares.now) (map (λ s. s.1.now) c.args.shares.now) (length c.args.out.now / c.len-k.result)
    c.loop-primary.primary k c.loop-primary.out c.decode_block.new.block long c.loop-primary-test.true
    (c.decode_block.auto.block ∙ length-part c.loop-primary.out c.loop-primary.primary (length c.args.out.now / c.len-k.result) k long c.loop-primary-test.true)
    c.loop-primary.invariant c.decode_block.ensures

pub returns-clause-shares_of : goal.returns-clause-shares_of
returns-clause-shares_of c =
    let xs = c.args.shares.now in
    let have = c.requires.lengths in
    let k = c.len-k.result in
    let blocks = map (λ s. s.1.now) c.args.shares.now in
    let seen : length c.self.inside.numbers.items ≡ length c.args.self.now = ap length c.self.view_is in
    let count : c.len-k.result ≡ length c.args.self.now = omega (arith, c.len-k.ensures, seen) in
    let whole : length c.args.out.now ≡ c.len-k.result * have.0 = have.1.whole ∙ ap (λ n. n * have.0) (sym count) in
    let size : length c.args.out.now / c.len-k.result ≡ have.0 = quotient_from_whole k have.0 (length c.args.out.now) (omega (arith, c.if-k-eq0.false)) whole in
    let same : c.self.inside.numbers.items ≡ map (λ s. s.0) c.args.shares.now = c.self.view_is ∙ sym c.requires.numbers in
    let table = c.self.invariant in
    let written : WrittenBelow (map (λ s. s.0) c.args.shares.now) blocks (length c.args.out.now / c.len-k.result) c.len-k.result c.loop-primary.out =
    λ p t hp ht. c.loop-primary.invariant p t (omega arith) ht in
    subst (λ n. AreSharesOf n c.loop-primary.out (map (λ s. s.0) c.args.shares.now) blocks) count
    (shares_of_written k (length c.args.out.now / c.len-k.result) (map (λ s. s.0) c.args.shares.now) c.loop-primary.out blocks
    (ap length c.requires.numbers ∙ sym count) (subst (λ ns. All (λ i. i < 256) ns) same table.small) (subst AreDistinct same table.distinct)
    (c.loop-primary.auto.out ∙ whole ∙ ap (λ n. k * n) (sym size))
    (λ m h. have.1.alike m [] (omega (arith, have.1.count, count)) ∙ sym size)
    (λ m h. c.know_bytes.ensures m (omega (arith, have.1.count, count, length-blocks xs))) written)

pub returns-clause-decoded : goal.returns-clause-decoded
returns-clause-decoded c primaries long theirs =
    let seen : length c.self.inside.numbers.items ≡ length c.args.self.now = ap length c.self.view_is in
    let count : c.len-k.result ≡ length c.args.self.now = omega (arith, c.len-k.ensures, seen) in
    let same : c.self.inside.numbers.items ≡ map (λ s. s.0) c.args.shares.now = c.self.view_is ∙ sym c.requires.numbers in
    let table = c.self.invariant in
    primaries_unique (length c.args.self.now) c.loop-primary.out primaries (map (λ s. s.0) c.args.shares.now) (map (λ s. s.1.now) c.args.shares.now)
    (omega (arith, count, c.if-k-eq0.false)) (omega (arith, seen, table.few)) (ap length c.requires.numbers)
    (subst (λ ns. All (λ i. i < 256) ns) same table.small) (subst AreDistinct same table.distinct)
    (returns-clause-shares_of c) theirs
