use Rattle.std.proofs.Common.{◌∙◌, ap, subst, ◌≡◌, sym, get_or, arith, ◌+◌, ⊎_elim}
use Rattle.zfec_code.specs.Field.{product, polynomial_product, IsRemainder}
use Rattle.zfec_code.specs.declared.tables.TheConstants.{POWERS, LOGARITHMS}
use Rattle.zfec_code.proofs.Laws.{product-zero_left, product-zero_right}
use Rattle.zfec_code.proofs.Division.{product_is_remainder}
use Rattle.zfec_code.proofs.TableEntries.{product_entry, logarithm-lt}
use Rattle.zfec_code.proofs.field.mul.Goals as goal

pub returns-then-a-eq0-clause-value : goal.returns-then-a-eq0-clause-value
returns-then-a-eq0-clause-value c =
    ⊎_elim (λ zero. sym (ap (λ x. product x c.args.b) zero ∙ product-zero_left c.args.b))
    (λ zero. sym (ap (product c.args.a) zero.1 ∙ product-zero_right c.args.a)) c.then-a-eq0.either

pub bounds-exponent : goal.bounds-exponent
bounds-exponent c =
    let i : c.from-2.result ≡ get_or LOGARITHMS c.args.a 0 = c.from-2.ensures ∙ ap (λ x. get_or LOGARITHMS x 0) c.from.ensures in
    let j : c.from-4.result ≡ get_or LOGARITHMS c.args.b 0 = c.from-4.ensures ∙ ap (λ x. get_or LOGARITHMS x 0) c.from-3.ensures in
    omega (arith, logarithm-lt c.args.a c.ranges.a.fits, logarithm-lt c.args.b c.ranges.b.fits)

pub returns-clause-value : goal.returns-clause-value
returns-clause-value c =
    let i : c.from-2.result ≡ get_or LOGARITHMS c.args.a 0 = c.from-2.ensures ∙ ap (λ x. get_or LOGARITHMS x 0) c.from.ensures in
    let j : c.from-4.result ≡ get_or LOGARITHMS c.args.b 0 = c.from-4.ensures ∙ ap (λ x. get_or LOGARITHMS x 0) c.from-3.ensures in
    let sum : c.from-2.result + c.from-4.result ≡ get_or LOGARITHMS c.args.a 0 + get_or LOGARITHMS c.args.b 0 = cc in
    ap (λ x. get_or POWERS x 0) sum
    ∙ product_entry c.args.a c.args.b (omega (arith, c.if-a-eq0.false)) (omega (arith, c.if-b-eq0.false)) c.ranges.a.fits c.ranges.b.fits

pub returns-clause-remainder : goal.returns-clause-remainder
returns-clause-remainder c =
    subst (λ r. IsRemainder (polynomial_product 8 c.args.a c.args.b) r) (sym (returns-clause-value c))
    (product_is_remainder c.args.a c.args.b c.ranges.a.fits c.ranges.b.fits)

pub returns-then-a-eq0-clause-remainder : goal.returns-then-a-eq0-clause-remainder
returns-then-a-eq0-clause-remainder c =
    subst (λ r. IsRemainder (polynomial_product 8 c.args.a c.args.b) r) (sym (returns-then-a-eq0-clause-value c))
    (product_is_remainder c.args.a c.args.b c.ranges.a.fits c.ranges.b.fits)
