use Rattle.std.proofs.Common.{◌≡◌, ◌∷◌, ◌++◌, arith}
use Rattle.catalogues.specs.Heads.{nine_digits}
use Rattle.catalogues.proofs.HeadLaws.{nine_digits_are, same_moment, some_same}
use Rattle.catalogues.proofs.head.read_moment.Goals as goal

pub returns-in_default-clause-only : goal.returns-in_default-clause-only
returns-in_default-clause-only c = λ moment rest seconds nanoseconds stops same.
    c.in_default.ensures.only moment.seconds (46 ∷ (nine_digits moment.nanoseconds ++ rest)) seconds (omega arith) same

pub returns-in_default-behind-clause-only : goal.returns-in_default-behind-clause-only
returns-in_default-behind-clause-only c = λ moment rest seconds nanoseconds stops same.
    let first = c.in-Some.ensures.only moment.seconds (46 ∷ (nine_digits moment.nanoseconds ++ rest)) seconds (omega arith) same in
    c.in_default-behind.ensures (nine_digits moment.nanoseconds ++ rest) first.1

pub returns-in_default-nine-clause-only : goal.returns-in_default-nine-clause-only
returns-in_default-nine-clause-only c = λ moment rest seconds nanoseconds stops same.
    let first = c.in-Some.ensures.only moment.seconds (46 ∷ (nine_digits moment.nanoseconds ++ rest)) seconds (omega arith) same in
    let second : c.in-Some-behind.rest.now ≡ nine_digits moment.nanoseconds ++ rest = cc (first.1, c.in-Some-behind.ensures) in
    let third = c.digits_of.ensures.only (nine_digits moment.nanoseconds) rest (nine_digits_are moment.nanoseconds nanoseconds) stops second in
    let none = c.in_default-nine.ensures.only moment.nanoseconds nanoseconds third.0 in
    cc none

pub returns-clause-only : goal.returns-clause-only
returns-clause-only c = λ moment rest seconds nanoseconds stops same.
    let first = c.in-Some.ensures.only moment.seconds (46 ∷ (nine_digits moment.nanoseconds ++ rest)) seconds (omega arith) same in
    let second : c.in-Some-behind.rest.now ≡ nine_digits moment.nanoseconds ++ rest = cc (first.1, c.in-Some-behind.ensures) in
    let third = c.digits_of.ensures.only (nine_digits moment.nanoseconds) rest (nine_digits_are moment.nanoseconds nanoseconds) stops second in
    let number = c.in-Some-nine.ensures.only moment.nanoseconds nanoseconds third.0 in
    (same_moment moment c.in-Some.seconds c.in-Some-nine.nanoseconds first.0 (some_same _ _ number), third.1)
