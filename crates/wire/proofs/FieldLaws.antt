-- A field that is read is the field that was written, and what was written is read again.
use Rattle.std.proofs.Common.{◌≡◌, ℕ, suc, ◌+◌, ◌^◌, ◌<◌, ◌≤◌, Bool, true, false, cond, ltb, List, ◌∷◌, ◌++◌, length, get_or, take, drop, Result, Ok, Err, refl, sym, ap, subst, ◌∙◌, append_assoc, arith, inl, inr}
use Rattle.std.proofs.lemmas.Bool.{cases_lt, ltb-false, le-ltb}
use Rattle.std.proofs.lemmas.List.{take_at, drop_at, take-append-drop, length-append, length-take, get_or-drop, get_or-take, get_or_past}
use Rattle.std.proofs.lemmas.Nat.{be_bytes_2, be_bytes_4, be_bytes_8}
use Rattle.byteorder.specs.Endian.{big_number, big_bytes}
use Rattle.byteorder.specs.Numbers.{big_number-reads_back, big_from-lt, big_from-take, length-bytes_high_first}
use Rattle.wire.specs.declared.error.WireError.{WireError}
use Rattle.wire.specs.declared.error.WireError.TheVariants.{BadFields}
use Rattle.wire.specs.Reading.{◌>>=◌, number_at, bytes_at}

abbrev pub IsBytes : List ℕ → Type 0
IsBytes bytes = (i : ℕ) → get_or bytes i 0 < 256

pub IsBytes-drop : (n : ℕ) (bytes : List ℕ) → IsBytes bytes → IsBytes (drop n bytes)
IsBytes-drop n bytes h i = rw get_or-drop (h (n + i))

pub IsBytes-take : (n : ℕ) (bytes : List ℕ) → IsBytes bytes → IsBytes (take n bytes)
IsBytes-take n bytes h i =
    elim (cases_lt i n) [
      | inl lt ↦ rw (get_or-take n bytes i 0 lt) (h i)
      | inr le ↦ rw (get_or_past (take n bytes) i 0 (omega (arith, length-take n bytes))) (omega arith)
    ]

pub IsBytes-rest : (b : ℕ) (bytes : List ℕ) → IsBytes (b ∷ bytes) → IsBytes bytes
IsBytes-rest b bytes h i = h (suc i)

-- a test that did not fail
pub guard_ok : {A : Type 0} (b : Bool) (d : WireError) (x y : A) → cond b (Err d) (Ok x) ≡ Ok y → (b ≡ false) × (x ≡ y)
guard_ok true d x y e = absurd cc
guard_ok false d x y e = (refl, cc)

-- a test that passed
pub passed_ok : {A : Type 0} (b : Bool) (d : WireError) (x y : A) → cond b (Ok x) (Err d) ≡ Ok y → (b ≡ true) × (x ≡ y)
passed_ok true d x y e = (refl, cc)
passed_ok false d x y e = absurd cc

abbrev done : {A : Type 0} → A → Result A WireError
done x = Ok x

pub ok_is : {A : Type 0} (x y : A) → done x ≡ done y → x ≡ y
ok_is x y e = cc

-- the value of a step that did not fail
pub bind_ok : {A B : Type 0} (r : Result A WireError) (f : A → Result B WireError) (y : B) → (r >>= f) ≡ Ok y → (x : A) × (r ≡ Ok x) × (f x ≡ Ok y)
bind_ok (Ok x) f y e = (x, refl, e)
bind_ok (Err d) f y e = absurd cc

-- what a reader took from the front
pub record Takes (bytes text rest : List ℕ) : Type 0 where
  pub parts : bytes ≡ text ++ rest
  pub rest_fits : IsBytes rest

pub Takes-then : (a x b y c : List ℕ) → Takes a x b → Takes b y c → Takes a (x ++ y) c
Takes-then a x b y c p q = record { parts = p.parts ∙ ap (λ (t : List ℕ). x ++ t) q.parts ∙ sym (append_assoc x y c); rest_fits = q.rest_fits }

-- a reader of the values that fit, which are spelled as text says
pub record Reads {A : Type 0} (reader : List ℕ → Result (A × List ℕ) WireError) (text : A → List ℕ) (Fits : A → Type 0) : Type 0 where
  pub takes : (bytes : List ℕ) (x : A × List ℕ) → IsBytes bytes → reader bytes ≡ Ok x → Takes bytes (text x.0) x.1 × Fits x.0
  pub again : (x : A) (rest : List ℕ) → Fits x → reader (text x ++ rest) ≡ Ok (x, rest)

-- a reader's step that did not fail, and what is done with its value
pub step : {A B : Type 0} {reader : List ℕ → Result (A × List ℕ) WireError} {text : A → List ℕ} {Fits : A → Type 0} (right : Reads reader text Fits) (bytes : List ℕ) (f : A × List ℕ → Result B WireError) (y : B) → IsBytes bytes → (reader bytes >>= f) ≡ Ok y
    → (x : A × List ℕ) × (f x ≡ Ok y) × Takes bytes (text x.0) x.1 × Fits x.0
step {reader = reader} right bytes f y fits e =
    let b = bind_ok (reader bytes) f y e in
    let t = right.takes bytes b.0 fits b.1 in
    (b.0, b.2, t.0, t.1)

-- ---- numbers

abbrev pub Back : ℕ → Type 0
Back n = (bytes : List ℕ) → length bytes ≡ n → IsBytes bytes → big_bytes n (big_number n bytes) ≡ bytes

pub back_2 : Back 2
back_2 bytes len fits = be_bytes_2 bytes (big_number 2 bytes) len fits (omega arith)

pub back_4 : Back 4
back_4 bytes len fits = be_bytes_4 bytes (big_number 4 bytes) len fits (omega arith)

pub back_8 : Back 8
back_8 bytes len fits = be_bytes_8 bytes (big_number 8 bytes) len fits (omega arith)

number_reads : (n : ℕ) → Back n → Reads (number_at n) (big_bytes n) (λ x. x < 256 ^ n)
number_reads n back = record {
  takes = λ bytes x fits e.
      let g = guard_ok (ltb (length bytes) n) BadFields (big_number n bytes, drop n bytes) x e in
      let long : n ≤ length bytes = ltb-false _ _ g.0 in
      let same : big_number n (take n bytes) ≡ big_number n bytes = big_from-take 0 n n bytes (omega arith) in
      let front : big_bytes n (big_number n bytes) ≡ take n bytes = ap (big_bytes n) (sym same) ∙ back (take n bytes) (omega (arith, length-take n bytes)) (IsBytes-take n bytes fits) in
      let parts : bytes ≡ big_bytes n (big_number n bytes) ++ drop n bytes = rw front (sym (take-append-drop n bytes)) in
      subst (λ (y : ℕ × List ℕ). Takes bytes (big_bytes n y.0) y.1 × (y.0 < 256 ^ n)) g.1 (record { parts = parts; rest_fits = IsBytes-drop n bytes fits }, big_from-lt 0 n bytes fits);
  again = λ x rest lt.
      let len : length (big_bytes n x) ≡ n = length-bytes_high_first n x in
      let long : ltb (length (big_bytes n x ++ rest)) n ≡ false = le-ltb _ _ (omega (arith, length-append (big_bytes n x) rest)) in
      rw (long, big_number-reads_back n x rest lt, drop_at (big_bytes n x) rest n len) refl;
}

pub reads_2 : Reads (number_at 2) (big_bytes 2) (λ x. x < 256 ^ 2)
reads_2 = number_reads 2 back_2

pub reads_4 : Reads (number_at 4) (big_bytes 4) (λ x. x < 256 ^ 4)
reads_4 = number_reads 4 back_4

pub reads_8 : Reads (number_at 8) (big_bytes 8) (λ x. x < 256 ^ 8)
reads_8 = number_reads 8 back_8

-- ---- bytes

pub bytes_reads : (n : ℕ) → Reads (bytes_at n) (λ x. x) (λ x. length x ≡ n)
bytes_reads n = record {
  takes = λ bytes x fits e.
      let g = guard_ok (ltb (length bytes) n) BadFields (take n bytes, drop n bytes) x e in
      let long : n ≤ length bytes = ltb-false _ _ g.0 in
      subst (λ (y : List ℕ × List ℕ). Takes bytes y.0 y.1 × (length y.0 ≡ n)) g.1 (record { parts = sym (take-append-drop n bytes); rest_fits = IsBytes-drop n bytes fits }, omega (arith, length-take n bytes));
  again = λ x rest len.
      let long : ltb (length (x ++ rest)) n ≡ false = le-ltb _ _ (omega (arith, length-append x rest)) in
      rw (long, take_at x rest n len, drop_at x rest n len) refl;
}
