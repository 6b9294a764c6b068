use Rattle.std.proofs.Common.{◌≡◌, ℕ, ◌+◌, ◌-◌, ◌<◌, ◌^◌, List, [], ◌∷◌, ◌++◌, Some, length, sym, ap, ◌∙◌, arith, rules, append-nil}
use Rattle.std.specs.Fmt.{decimal}
use Rattle.std.proofs.lemmas.Fmt.{decimal_injective}
use Rattle.catalogues.specs.Heads.{nine_digits}
use Rattle.catalogues.proofs.HeadLaws.{nine_is, nine_size, nine_read}
use Rattle.catalogues.proofs.head.nine.Goals as goal
use Rattle.catalogues.proofs.head.nine.Goals.{then-n-lt-SECOND-via-then-n-lt-SECOND, then-n-lt-SECOND-via-else-n-lt-SECOND+then-n}

-- the ten digits of a number that has these nine
padded : (ten digits : List ℕ) (n : ℕ) → n < 1000000000 → ten ≡ digits → digits ≡ nine_digits n → 49 ∷ (ten ++ []) ≡ decimal (1000000000 + n)
padded ten digits n small after same =
    ap (λ (ds : List ℕ). 49 ∷ ds) (append-nil ten ∙ after ∙ same) ∙ sym (nine_is n small)

-- the number that has the ten
one_number : (ten digits : List ℕ) (m n : ℕ) → m < 2 ^ 64 → n < 1000000000 → ten ≡ digits → digits ≡ nine_digits n → 49 ∷ (ten ++ []) ≡ decimal m → m ≡ 1000000000 + n
one_number ten digits m n fits small after same is =
    decimal_injective m (1000000000 + n) fits (omega arith) (sym is ∙ padded ten digits n small after same)

pub returns-then-digits-ne9-clause-only : goal.returns-then-digits-ne9-clause-only
returns-then-digits-ne9-clause-only c = λ n small same. absurd (c.if-digits-ne9.true (ap length same ∙ nine_size n small))

pub returns-in_default-clause-only : goal.returns-in_default-clause-only
returns-in_default-clause-only c = λ n small same.
    absurd (c.in_default.ensures.none (1000000000 + n, omega arith, padded _ c.args.digits.now n small c.copy_from_slice.ensures.after same))

pub returns-then-n-lt-SECOND-clause-only : goal.returns-then-n-lt-SECOND-clause-only
returns-then-n-lt-SECOND-clause-only c = λ n small same.
    let fits : c.in-Some.n < 2 ^ 64 = search rules in
    let is : c.in-Some.n ≡ 1000000000 + n = one_number _ c.args.digits.now c.in-Some.n n fits small c.copy_from_slice.ensures.after same c.in-Some.ensures.value in
    absurd (elim c.then-n-lt-SECOND.branch [
      | then-n-lt-SECOND-via-then-n-lt-SECOND w ↦ omega (arith, is, w.if-n-lt-SECOND.true)
      | then-n-lt-SECOND-via-else-n-lt-SECOND+then-n w ↦ omega (arith, is, w.if-n.true)
    ])

pub returns-clause-found : goal.returns-clause-found
returns-clause-found c = (
  omega arith,
  nine_read c.args.digits.now c.in-Some.n c.if-n-lt-SECOND.false
      (ap (λ (ds : List ℕ). 49 ∷ ds) (sym (append-nil c.copy_from_slice.new.self ∙ c.copy_from_slice.ensures.after)) ∙ c.in-Some.ensures.value),
)

pub returns-clause-only : goal.returns-clause-only
returns-clause-only c = λ n small same.
    let fits : c.in-Some.n < 2 ^ 64 = search rules in
    let is : c.in-Some.n ≡ 1000000000 + n = one_number _ c.args.digits.now c.in-Some.n n fits small c.copy_from_slice.ensures.after same c.in-Some.ensures.value in
    let number : c.in-Some.n - 1000000000 ≡ n = omega arith in
    ap Some number
