use Rattle.std.proofs.Common.{ℕ, ◌+◌, ◌-◌, inl, inr, arith}
use Rattle.std.proofs.lemmas.Bool.{cases_lt}
use Rattle.cap_text.proofs.Groups.{letter-small, letter-large}
use Rattle.cap_text.proofs.base32.number_for.Goals as goal

pub returns-in-50-to-55-clause-number : goal.returns-in-50-to-55-clause-number
returns-in-50-to-55-clause-number c =
    let number : ℕ = c.args.text - 50 + 26 in
    (omega arith, omega (arith, letter-large number (omega arith)))

pub returns-in-97-to-122-clause-number : goal.returns-in-97-to-122-clause-number
returns-in-97-to-122-clause-number c =
    let number : ℕ = c.args.text - 97 in
    (omega arith, omega (arith, letter-small number (omega arith)))

pub returns-in_default-clause-none : goal.returns-in_default-clause-none
returns-in_default-clause-none c n small same = elim (cases_lt n 26) [
  | inl low ↦ omega (arith, letter-small n low, same)
  | inr high ↦ omega (arith, letter-large n high, same)
]

pub returns-in_default-2-clause-none : goal.returns-in_default-2-clause-none
returns-in_default-2-clause-none c n small same = elim (cases_lt n 26) [
  | inl low ↦ omega (arith, letter-small n low, same)
  | inr high ↦ omega (arith, letter-large n high, same)
]

pub returns-in_default-3-clause-none : goal.returns-in_default-3-clause-none
returns-in_default-3-clause-none c n small same = elim (cases_lt n 26) [
  | inl low ↦ omega (arith, letter-small n low, same)
  | inr high ↦ omega (arith, letter-large n high, same)
]
