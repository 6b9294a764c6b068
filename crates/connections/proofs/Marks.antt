-- Which marks greetings tell.
use Rattle.std.proofs.Common.{◌≡◌, ℕ, ◌-◌, ◌<◌, ◌≤◌, ◌^◌, List, [], ◌∷◌, ◌++◌, length, drop, get_or, Option, Some, None, refl, sym, ap, ◌∙◌, append_assoc, arith, codes, replicate, inl, inr}
use Rattle.std.specs.Prelude.{decimal}
use Rattle.std.specs.Str.Parse.{AllDigits}
use Rattle.std.proofs.lemmas.Fmt.{decimal_injective, decimal_is_IsNumeral, length-decimal-le}
use Rattle.std.proofs.lemmas.List.{length-append}
use Rattle.std.proofs.lemmas.Str.Parse.{digit_from_value}
use Rattle.cap_text.specs.Base32.{base32}
use Rattle.cap_text.proofs.OneText.{base32-injective}
use Rattle.cap_text.proofs.Reading.{parts_of_one, sizes, spelled}
use Rattle.grid_marks.specs.Marks.{IsMark, kind_text, line, mark_text}
use Rattle.grid_marks.specs.declared.mark.Kind.{Kind}
use Rattle.grid_marks.specs.declared.mark.Kind.TheVariants.{Grid, Server}
use Rattle.grid_marks.specs.declared.mark.Mark.{Mark}
use Rattle.connections.specs.Greetings.{Fits, MayBeMark, greeting_of, version}

-- a line feed ends digits
digits_end : (xs ys a b : List ℕ) → AllDigits 10 xs → AllDigits 10 ys → xs ++ 10 ∷ a ≡ ys ++ 10 ∷ b → xs ≡ ys
digits_end [] [] a b p q e = refl
digits_end [] (d ∷ ys) a b p q e = let first : 10 ≡ d = cc in absurd (omega (arith, digit_from_value d q.0, first))
digits_end (c ∷ xs) [] a b p q e = let first : c ≡ 10 = cc in absurd (omega (arith, digit_from_value c p.0, first))
digits_end (c ∷ xs) (d ∷ ys) a b p q e =
    let tails : xs ++ 10 ∷ a ≡ ys ++ 10 ∷ b = cc in
    let others = digits_end xs ys a b p.1 q.1 tails in
    cc

number_part : (m n : ℕ) (a b : List ℕ) → m ≤ 256 → n ≤ 256
    → decimal m ++ (codes "\n" ++ a) ≡ decimal n ++ (codes "\n" ++ b) → m ≡ n
number_part m n a b m-fits n-fits e =
    let m-small : m < 2 ^ 64 = omega (arith, m-fits) in
    let n-small : n < 2 ^ 64 = omega (arith, n-fits) in
    decimal_injective m n m-small n-small
    (digits_end (decimal m) (decimal n) a b (decimal_is_IsNumeral m m-small).0.1 (decimal_is_IsNumeral n n-small).0.1 e)

-- the letters of an identity
letters_16 : (bytes : List ℕ) → length bytes ≡ 16 → length (base32 bytes) ≡ 26
letters_16 bytes len =
    let size = sizes (base32 bytes) bytes (spelled (base32 bytes) bytes refl) in
    omega (arith, size.few, size.total, len)

-- the line of a mark leaves room behind the version
pub line_len : (m : Mark) → length m.identity ≡ 16 → m.number < 2 ^ 16 → length (mark_text m) ≤ 50
line_len m len small = elim m.kind as (λ (kind : Kind). length (line m.identity kind m.number) ≤ 50) [
  | Grid ↦ omega (arith, length-append (base32 m.identity) (codes " servers " ++ (decimal m.number ++ codes "\n")), letters_16 m.identity len, length-append (decimal m.number) (codes "\n"), length-decimal-le 5 m.number (omega arith) (omega (arith, small)) (omega (arith, small)))
  | Server ↦ omega (arith, length-append (base32 m.identity) (codes " server " ++ (decimal m.number ++ codes "\n")), letters_16 m.identity len, length-append (decimal m.number) (codes "\n"), length-decimal-le 5 m.number (omega arith) (omega (arith, small)) (omega (arith, small)))
]

-- behind the identity stand the kind and the number
rest_part : (k l : Kind) (m n : ℕ) (a b : List ℕ) → m ≤ 256 → n ≤ 256
    → kind_text k ++ (decimal m ++ (codes "\n" ++ a)) ≡ kind_text l ++ (decimal n ++ (codes "\n" ++ b)) → (k ≡ l) × (m ≡ n)
rest_part Grid Grid m n a b m-fits n-fits e = (refl, number_part m n a b m-fits n-fits (ap (drop 9) e))
rest_part Server Server m n a b m-fits n-fits e = (refl, number_part m n a b m-fits n-fits (ap (drop 8) e))
rest_part Grid Server m n a b m-fits n-fits e = let other : 115 ≡ 32 = ap (λ (xs : List ℕ). get_or xs 7 0) e in absurd (omega (arith, other))
rest_part Server Grid m n a b m-fits n-fits e = let other : 32 ≡ 115 = ap (λ (xs : List ℕ). get_or xs 7 0) e in absurd (omega (arith, other))

mark_of : (m n : Mark) → m.identity ≡ n.identity → m.kind ≡ n.kind → m.number ≡ n.number → m ≡ n
mark_of m n identity kind number =
    let of : List ℕ → Kind → ℕ → Mark = λ i k x. record { identity = i; kind = k; number = x } in
    ap (λ (i : List ℕ). of i m.kind m.number) identity ∙ ap (λ (k : Kind). of n.identity k m.number) kind ∙ ap (of n.identity n.kind) number

-- texts behind the line of a mark do not change which mark it is
mark_part : (m n : Mark) (a b : List ℕ) → IsMark m → IsMark n → mark_text m ++ a ≡ mark_text n ++ b → m ≡ n
mark_part m n a b m-is n-is e =
    let split : (x : Mark) (c : List ℕ) → drop 5 (mark_text x ++ c) ≡ base32 x.identity ++ (kind_text x.kind ++ (decimal x.number ++ (codes "\n" ++ c))) =
    λ x c. append_assoc (base32 x.identity) (kind_text x.kind ++ (decimal x.number ++ codes "\n")) c
    ∙ ap (λ (l : List ℕ). base32 x.identity ++ l) (append_assoc (kind_text x.kind) (decimal x.number ++ codes "\n") c
    ∙ ap (λ (l : List ℕ). kind_text x.kind ++ l) (append_assoc (decimal x.number) (codes "\n") c)) in
    let parts = parts_of_one (base32 m.identity) (base32 n.identity) _ _ (letters_16 m.identity m-is.0.len ∙ sym (letters_16 n.identity n-is.0.len)) (sym (split m a) ∙ ap (drop 5) e ∙ split n b) in
    let rest = rest_part m.kind n.kind m.number n.number a b m-is.1 n-is.1 parts.1 in
    mark_of m n (base32-injective 16 m.identity n.identity m-is.0 n-is.0 parts.0) rest.0 rest.1

-- what stands behind the version
abbrev behind : List ℕ → List ℕ
behind text = replicate (64 - length (version ++ text)) 32

-- a greeting that tells a mark is not that of none
tells_mark : (m : Mark) → greeting_of (Some m) ≡ greeting_of None → ⊥
tells_mark m e = let other : 103 ≡ 110 = ap (λ (xs : List ℕ). get_or xs 14 0) e in omega (arith, other)

-- a greeting tells one mark
told_once : (m : Mark) (other : Option Mark) → IsMark m → MayBeMark other → greeting_of (Some m) ≡ greeting_of other → other ≡ Some m
told_once m None m-is other-is e = absurd (tells_mark m e)
told_once m (Some n) m-is n-is e =
    ap Some (sym (mark_part m n (behind (mark_text m)) (behind (mark_text n)) m-is n-is (ap (drop 14) e)))

pub one_mark : (m : Mark) (other : Option Mark) → IsMark m → MayBeMark other → Fits (greeting_of (Some m)) (greeting_of other) → other ≡ Some m
one_mark m other m-is other-is fit = elim fit [
  | inl same ↦ told_once m other m-is other-is same
  | inr none ↦ absurd (tells_mark m none.0)
]
