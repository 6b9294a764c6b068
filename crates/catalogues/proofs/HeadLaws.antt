-- The first line of a catalogue.
use Rattle.std.proofs.Common.{Option, Some, ◌≡◌, ℕ, zero, suc, ◌+◌, ◌-◌, ◌*◌, ◌/◌, ◌%◌, ◌^◌, ◌<◌, ◌≤◌, List, [], ◌∷◌, ◌++◌, length, take, drop, refl, sym, ap, subst, ◌∙◌, arith}
use Rattle.std.specs.Fmt.{decimal}
use Rattle.std.proofs.lemmas.Fmt.{decimal_by_steps, decimal_digit, decimal_step}
use Rattle.std.proofs.lemmas.List.{length_push, length-append, take_at, drop_at}
use Rattle.cap_text.specs.Base32.{base32}
use Rattle.cap_text.proofs.Reading.{spelled, sizes}
use Rattle.catalogues.specs.declared.head.Head.{Head}
use Rattle.catalogues.specs.declared.head.Moment.{Moment}
use Rattle.catalogues.specs.declared.head.Numbers.{Numbers}
use Rattle.catalogues.specs.Heads.{nine_digits}
use Rattle.catalogues.specs.Pieces.{AreDigits}

digits_both : (a b : List ℕ) → AreDigits a → AreDigits b → AreDigits (a ++ b)
digits_both [] b p q = q
digits_both (c ∷ a) b p q = (p.0, digits_both a b p.1 q)

-- what is written of a number is digits
pub decimal_digits : (n : ℕ) → n < 2 ^ 64 → AreDigits (decimal n)
decimal_digits n fits = decimal_by_steps (λ m ds. AreDigits ds)
    (λ m small. ((omega arith, omega arith), tt))
    (λ m ds big front. digits_both ds ((48 + m % 10) ∷ []) front ((omega arith, omega arith), tt))
    n fits

-- powers of ten
abbrev tens : ℕ → ℕ
tens zero = 1
tens (suc k) = 10 * tens k

-- a number whose first digit is 1, and the others
pub record OneAnd (m k : ℕ) : Type 0 where
  pub others : List ℕ
  pub is : decimal m ≡ 49 ∷ others
  pub size : length others ≡ k
  pub digits : AreDigits others

one_and : (k m : ℕ) → tens k ≤ m → m < 2 * tens k → m < 2 ^ 64 → OneAnd m k
one_and zero m low high fits =
    let one : m ≡ 1 = omega arith in
    record { others = []; is = ap decimal one ∙ decimal_digit 1 (omega arith); size = refl; digits = tt }
one_and (suc k) m low high fits =
    let some : 1 ≤ tens k = tens_some k in
    let front = one_and k (m / 10) (omega arith) (omega arith) (omega arith) in
    record {
      others = front.others ++ (48 + m % 10) ∷ [];
      is = decimal_step m (omega arith) fits ∙ ap (λ (ds : List ℕ). ds ++ (48 + m % 10) ∷ []) front.is;
      size = length_push front.others (48 + m % 10) ∙ omega (arith, front.size);
      digits = digits_both front.others ((48 + m % 10) ∷ []) front.digits ((omega arith, omega arith), tt);
    }
  where
    tens_some : (j : ℕ) → 1 ≤ tens j
    tens_some zero = omega arith
    tens_some (suc j) = omega (arith, tens_some j)

-- the nine digits of a number
pub nine_and : (n : ℕ) → n < 1000000000 → OneAnd (1000000000 + n) 9
nine_and n small = one_and 9 (1000000000 + n) (omega arith) (omega arith) (omega arith)

pub nine_is : (n : ℕ) → n < 1000000000 → decimal (1000000000 + n) ≡ 49 ∷ nine_digits n
unfolding nine_digits
nine_is n small = let it = nine_and n small in it.is ∙ ap (λ (ds : List ℕ). 49 ∷ ds) (sym (ap (drop 1) it.is))

pub nine_others : (n : ℕ) (small : n < 1000000000) → nine_digits n ≡ (nine_and n small).others
unfolding nine_digits
nine_others n small = ap (drop 1) (nine_and n small).is

pub nine_size : (n : ℕ) → n < 1000000000 → length (nine_digits n) ≡ 9
nine_size n small = ap length (nine_others n small) ∙ (nine_and n small).size

pub nine_digits_are : (n : ℕ) → n < 1000000000 → AreDigits (nine_digits n)
nine_digits_are n small = subst AreDigits (sym (nine_others n small)) (nine_and n small).digits

-- a number that is read of them
pub nine_read : (digits : List ℕ) (m : ℕ) → 1000000000 ≤ m → 49 ∷ digits ≡ decimal m → digits ≡ nine_digits (m - 1000000000)
unfolding nine_digits
nine_read digits m low same =
    let again : 1000000000 + (m - 1000000000) ≡ m = omega arith in
    ap (drop 1) same ∙ ap (λ (k : ℕ). drop 1 (decimal k)) (sym again)

-- the letters of a fingerprint
pub letters_16 : (bytes : List ℕ) → length bytes ≡ 16 → length (base32 bytes) ≡ 26
letters_16 bytes len =
    let size = sizes (base32 bytes) bytes (spelled (base32 bytes) bytes refl) in
    omega (arith, size.few, size.total, len)

pub letters_end : (bytes more rest : List ℕ) → length bytes ≡ 16 → rest ≡ base32 bytes ++ more → (take 26 rest ≡ base32 bytes) × (drop 26 rest ≡ more)
letters_end bytes more rest len same = (
  ap (take 26) same ∙ take_at (base32 bytes) more 26 (letters_16 bytes len),
  ap (drop 26) same ∙ drop_at (base32 bytes) more 26 (letters_16 bytes len),
)

pub letters_fit : (bytes more rest : List ℕ) → length bytes ≡ 16 → rest ≡ base32 bytes ++ more → length rest < 26 → ⊥
letters_fit bytes more rest len same short =
    omega (arith, ap length same ∙ length-append (base32 bytes) more, letters_16 bytes len, short)

-- values of the same fields
pub some_same : (a b : ℕ) → ◌≡◌ {A = Option ℕ} (Some a) (Some b) → a ≡ b
some_same a b same = cc

pub same_moment : (moment : Moment) (s n : ℕ) → s ≡ moment.seconds → n ≡ moment.nanoseconds
    → ◌≡◌ {A = Moment} (record { seconds = s; nanoseconds = n }) moment
same_moment moment s n p q =
    ap (λ (x : ℕ). let m : Moment = record { seconds = x; nanoseconds = n } in m) p
    ∙ ap (λ (x : ℕ). let m : Moment = record { seconds = moment.seconds; nanoseconds = x } in m) q

pub same_head : (head : Head) (m : Moment) (x : Numbers) (f : List ℕ) → m ≡ head.begun → x ≡ head.numbers → f ≡ head.fingerprint
    → ◌≡◌ {A = Head} (record { begun = m; numbers = x; fingerprint = f }) head
same_head head m x f p q r =
    ap (λ (y : Moment). let h : Head = record { begun = y; numbers = x; fingerprint = f } in h) p
    ∙ ap (λ (y : Numbers). let h : Head = record { begun = head.begun; numbers = y; fingerprint = f } in h) q
    ∙ ap (λ (y : List ℕ). let h : Head = record { begun = head.begun; numbers = head.numbers; fingerprint = y } in h) r

pub same_numbers : (x : Numbers) (k n s : ℕ) → k ≡ x.needed → n ≡ x.total → s ≡ x.segment_size
    → ◌≡◌ {A = Numbers} (record { needed = k; total = n; segment_size = s }) x
same_numbers x k n s p q r =
    ap (λ (y : ℕ). let z : Numbers = record { needed = y; total = n; segment_size = s } in z) p
    ∙ ap (λ (y : ℕ). let z : Numbers = record { needed = x.needed; total = y; segment_size = s } in z) q
    ∙ ap (λ (y : ℕ). let z : Numbers = record { needed = x.needed; total = x.total; segment_size = y } in z) r
