use Rattle.std.proofs.Common.{rules, ◌≡◌, ◌∙◌, ◌<◌, sym, arith}
use Rattle.std.specs.Prelude.{decimal}
use Rattle.std.proofs.lemmas.Fmt.{decimal_injective}
use Rattle.share_folders.proofs.names.read_between.Goals as goal

pub returns-clause-only : goal.returns-clause-only
returns-clause-only c = λ n fits is.
    let found : c.in_ok-between_dots.field-0.now ≡ decimal n = rw c.in_ok-between_dots.was at (c.between_dots.ensures.only (decimal n) is) in
    let value : c.in_ok-between_dots.field-0.now ≡ decimal c.in_ok-read_decimal.field-0 = c.in_ok-read_decimal.ensures.value in
    let same = decimal_injective c.in_ok-read_decimal.field-0 n (omega arith) (omega (arith, fits)) (sym value ∙ found) in
    let small : c.in_ok-read_decimal.field-0 < 256 = omega (arith, same, fits) in
    search rules
