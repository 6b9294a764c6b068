use Rattle.std.proofs.Common.{◌<◌, ◌^◌, sym, ◌∙◌, rules}
use Rattle.std.specs.Fmt.{decimal}
use Rattle.std.proofs.lemmas.Fmt.{decimal_injective}
use Rattle.std.proofs.lemmas.List.{append_cancel_left}
use Rattle.catalogues.proofs.HeadLaws.{decimal_digits}
use Rattle.catalogues.proofs.pieces.number_behind.Goals as goal

pub returns-in_default-read_decimal-clause-only : goal.returns-in_default-read_decimal-clause-only
returns-in_default-read_decimal-clause-only c = λ n rest fits stops same.
    let first = append_cancel_left c.args.word.now _ _ (sym c.in-Some.ensures ∙ same) in
    let parts = c.digits_of.ensures.only (decimal n) rest (decimal_digits n fits) stops first in
    absurd (c.in_default-read_decimal.ensures.none (n, fits, parts.0))

pub returns-clause-only : goal.returns-clause-only
returns-clause-only c = λ n rest fits stops same.
    let first = append_cancel_left c.args.word.now _ _ (sym c.in-Some.ensures ∙ same) in
    let parts = c.digits_of.ensures.only (decimal n) rest (decimal_digits n fits) stops first in
    let small : c.in-Some-read_decimal.n < 2 ^ 64 = search rules in
    (decimal_injective c.in-Some-read_decimal.n n small fits (sym c.in-Some-read_decimal.ensures.value ∙ parts.0), parts.1)
