use Rattle.std.proofs.Common.{ℕ, List, ◌++◌, codes, arith}
use Rattle.cap_text.specs.Base32.{base32}
use Rattle.catalogues.specs.declared.head.Head.{Head}
use Rattle.catalogues.specs.HeadParts.{numbers_then}
use Rattle.catalogues.proofs.HeadLaws.{same_head}
use Rattle.catalogues.proofs.head.Head.read.Goals as goal

-- what stands behind the numbers
abbrev under : Head → List ℕ → List ℕ
under head rest = codes " under " ++ (base32 head.fingerprint ++ (codes "\n" ++ rest))

pub returns-in_default-clause-only : goal.returns-in_default-clause-only
returns-in_default-clause-only c = λ head rest is same.
    c.in_default.ensures.only head.begun (numbers_then head.numbers (under head rest)) is.seconds is.ranges.moment (omega arith) same

pub returns-in_default-read_numbers-clause-only : goal.returns-in_default-read_numbers-clause-only
returns-in_default-read_numbers-clause-only c = λ head rest is same.
    let first = c.in-Some.ensures.only head.begun (numbers_then head.numbers (under head rest)) is.seconds is.ranges.moment (omega arith) same in
    c.in_default-read_numbers.ensures.only head.numbers (under head rest) is.ranges.numbers (omega arith) first.1

pub returns-in_default-read_fingerprint-clause-only : goal.returns-in_default-read_fingerprint-clause-only
returns-in_default-read_fingerprint-clause-only c = λ head rest is same.
    let first = c.in-Some.ensures.only head.begun (numbers_then head.numbers (under head rest)) is.seconds is.ranges.moment (omega arith) same in
    let second = c.in-Some-read_numbers.ensures.only head.numbers (under head rest) is.ranges.numbers (omega arith) first.1 in
    c.in_default-read_fingerprint.ensures.only head.fingerprint rest is.fingerprint second.1

pub returns-clause-only : goal.returns-clause-only
returns-clause-only c = λ head rest is same.
    let first = c.in-Some.ensures.only head.begun (numbers_then head.numbers (under head rest)) is.seconds is.ranges.moment (omega arith) same in
    let second = c.in-Some-read_numbers.ensures.only head.numbers (under head rest) is.ranges.numbers (omega arith) first.1 in
    let third = c.in-Some-read_fingerprint.ensures.only head.fingerprint rest is.fingerprint second.1 in
    (same_head head _ _ _ first.0 second.0 third.0, third.1)
