use Rattle.std.proofs.Common.{◌≡◌, ◌∙◌, sym, arith}
use Rattle.std.specs.Prelude.{decimal}
use Rattle.std.proofs.lemmas.Fmt.{decimal_injective}
use Rattle.share_files.proofs.name.read_number.Goals as goal

pub returns-then-number-eq1-clause-only : goal.returns-then-number-eq1-clause-only
returns-then-number-eq1-clause-only c = λ n other few is.
    let value : c.args.text.now ≡ decimal c.in_ok-number.number = c.in_ok-number.ensures.value in
    let same = decimal_injective c.in_ok-number.number n (omega arith) (omega (arith, few)) (sym value ∙ is) in
    absurd (other (sym same ∙ c.if-number-eq1.true))

pub returns-then-number-from-clause-only : goal.returns-then-number-from-clause-only
returns-then-number-from-clause-only c = λ n other few is.
    let value : c.args.text.now ≡ decimal c.in_ok-number.number = c.in_ok-number.ensures.value in
    let same = decimal_injective c.in_ok-number.number n (omega arith) (omega (arith, few)) (sym value ∙ is) in
    absurd (omega (arith, same, few, c.from.ensures, c.if-number-from.true))
