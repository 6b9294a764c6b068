-- The names of files that are set aside.
use Rattle.std.proofs.Common.{Bool, ◌≡◌, ◌≢◌, ◌<◌, ◌≤◌, ◌-◌, ℕ, zero, suc, take, drop, List, ◌++◌, Option, Some, None, Bor, length, refl, sym, ap, ◌∙◌, arith}
use Rattle.std.specs.Prelude.{if◌then◌else◌, MatchOption, IfSome, IsSomeAnd, codes, decimal}
use Rattle.std.proofs.lemmas.Bool.{ne_eqb}
use Rattle.std.proofs.lemmas.Fmt.{length-decimal-le, decimal_nonempty}
use Rattle.std.proofs.lemmas.List.{append_assoc, append_cancel_right, length-append, take_at, drop_at}
use Rattle.cap_text.specs.Base32.{base32, IsBytes}
use Rattle.share_folders.proofs.NameLaws.{letters_16}
use Rattle.share_files.specs.Name.{IsAsideNumber, aside_end}

-- what `strip_suffix` says, as two clauses
pub front_found : (text end : List ℕ) (r : Option (Bor (List ℕ))) → MatchOption r ((front : List ℕ) → text ≢ front ++ end) (λ x. text ≡ x.now ++ end) → IfSome r (λ x. text ≡ x.now ++ end)
front_found text end (Some x) m = m
front_found text end None m = tt

pub front_only : (text end front : List ℕ) (r : Option (Bor (List ℕ))) → MatchOption r ((front : List ℕ) → text ≢ front ++ end) (λ x. text ≡ x.now ++ end) → text ≡ front ++ end
    → IsSomeAnd r (λ x. x.now ≡ front)
front_only text end front (Some x) m is = append_cancel_right x.now front end (sym m ∙ is)
front_only text end front None m is = absurd (m front is)

-- one digit or two
of_two : (P : Type 0) (k : ℕ) → 0 < k → k ≤ 2 → (k ≡ 1 → P) → (k ≡ 2 → P) → P
of_two P zero some most one two = absurd (omega (arith, some))
of_two P (suc zero) some most one two = one refl
of_two P (suc (suc zero)) some most one two = two refl
of_two P (suc (suc (suc k))) some most one two = absurd (omega (arith, most))

-- a number has one digit or two, and so has 0
by_digits : (P : Type 0) (number : ℕ) → number < 100 → (length (decimal number) ≡ 1 → P) → (length (decimal number) ≡ 2 → P) → P
by_digits P number few one two =
    of_two P (length (decimal number)) (decimal_nonempty number (omega (arith, few))) (length-decimal-le 2 number (omega arith) (omega (arith, few)) (omega (arith, few))) one two

-- the first has no number, and the others have one of one digit or two
pub by_number : (P : Type 0) (number : ℕ) → IsAsideNumber number → (number ≡ 1 → P) → (number ≢ 1 → length (decimal number) ≡ 1 → P) → (number ≢ 1 → length (decimal number) ≡ 2 → P) → P
by_number P zero is first one two =
    let other : zero ≢ 1 = λ e. omega (arith, e) in
    by_digits P zero is (one other) (two other)
by_number P (suc zero) is first one two = first refl
by_number P (suc (suc n)) is first one two =
    let other : suc (suc n) ≢ 1 = λ e. omega (arith, e) in
    by_digits P (suc (suc n)) is (one other) (two other)

pub numbered_end : (number : ℕ) → number ≢ 1 → aside_end number ≡ codes ".damaged." ++ decimal number
numbered_end number other = ap (λ (b : Bool). if b then codes ".damaged" else codes ".damaged." ++ decimal number) (ne_eqb number 1 other)

-- a number behind its end, from the right
from_right : (name closed : List ℕ) (n : ℕ) → n ≢ 1 → name ≡ closed ++ aside_end n → name ≡ (closed ++ codes ".damaged.") ++ decimal n
from_right name closed n other is = is ∙ ap (λ (xs : List ℕ). closed ++ xs) (numbered_end n other) ∙ sym (append_assoc closed (codes ".damaged.") (decimal n))

pub front_part : (name closed : List ℕ) (n digits : ℕ) → n ≢ 1 → length (decimal n) ≡ digits → name ≡ closed ++ aside_end n → take (length name - digits) name ≡ closed ++ codes ".damaged."
front_part name closed n digits other len is =
    let long = length-append (closed ++ codes ".damaged.") (decimal n) in
    ap (λ (xs : List ℕ). take (length xs - digits) xs) (from_right name closed n other is) ∙ take_at (closed ++ codes ".damaged.") (decimal n) _ (omega (arith, long, len))

pub number_part : (name closed : List ℕ) (n digits : ℕ) → n ≢ 1 → length (decimal n) ≡ digits → name ≡ closed ++ aside_end n → drop (length name - digits) name ≡ decimal n
number_part name closed n digits other len is =
    let long = length-append (closed ++ codes ".damaged.") (decimal n) in
    ap (λ (xs : List ℕ). drop (length xs - digits) xs) (from_right name closed n other is) ∙ drop_at (closed ++ codes ".damaged.") (decimal n) _ (omega (arith, long, len))

-- what a file has of its own stands behind a dot
dotted : (own : List ℕ) → IsBytes 16 own → length (codes "." ++ base32 own) ≡ 27
dotted own sized =
    let long = length-append (codes ".") (base32 own) in
    omega (arith, long, letters_16 own sized.len)

from_dot : (front closed own : List ℕ) → front ≡ closed ++ codes "." ++ base32 own → front ≡ closed ++ (codes "." ++ base32 own)
from_dot front closed own is = is ∙ append_assoc closed (codes ".") (base32 own)

pub closed_part : (front closed own : List ℕ) → IsBytes 16 own → front ≡ closed ++ codes "." ++ base32 own → take (length front - 27) front ≡ closed
closed_part front closed own sized is =
    let long = length-append closed (codes "." ++ base32 own) in
    ap (λ (xs : List ℕ). take (length xs - 27) xs) (from_dot front closed own is) ∙ take_at closed (codes "." ++ base32 own) _ (omega (arith, long, dotted own sized))

pub own_part : (front closed own : List ℕ) → IsBytes 16 own → front ≡ closed ++ codes "." ++ base32 own → drop (length front - 27) front ≡ codes "." ++ base32 own
own_part front closed own sized is =
    let long = length-append closed (codes "." ++ base32 own) in
    ap (λ (xs : List ℕ). drop (length xs - 27) xs) (from_dot front closed own is) ∙ drop_at closed (codes "." ++ base32 own) _ (omega (arith, long, dotted own sized))

pub long_enough : (front closed own : List ℕ) → IsBytes 16 own → front ≡ closed ++ codes "." ++ base32 own → length front < 27 → ⊥
long_enough front closed own sized is short =
    let long = length-append closed (codes "." ++ base32 own) in
    let whole = ap length (from_dot front closed own is) in
    omega (arith, whole, long, dotted own sized, short)
