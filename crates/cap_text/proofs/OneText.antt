-- Fields have one text, and a text has one answer.
use Rattle.std.proofs.Common.{◌≡◌, ℕ, zero, suc, ◌+◌, ◌-◌, ◌*◌, ◌<◌, ◌^◌, inl, inr, false, List, [], ◌∷◌, length, get_or, Result, Ok, Err, refl, sym, ap, subst, ◌∙◌, arith, eqb}
use Rattle.std.proofs.lemmas.Bool.{ne_eqb, cases_order, cases_lt}
use Rattle.std.proofs.lemmas.Fmt.{decimal_injective, digits_decimal}
use Rattle.std.proofs.lemmas.List.{get_or-map, length-map, get_or_default}
use Rattle.std.proofs.lemmas.List.Splits.{slice_split_none, slice_split_at}
use Rattle.std.proofs.lemmas.Str.Parse.{IsNumeralModel, numerals_by_value, tells_digits, digit_at}
use Rattle.std.specs.Str.Parse.{AllDigits, digits_value}
use Rattle.std.specs.Fmt.{decimal}
use Rattle.std.specs.List.{All, flat_map}
use Rattle.cap_text.specs.declared.fields.Fields.{Fields}
use Rattle.cap_text.specs.declared.error.CapError.{CapError}
use Rattle.cap_text.specs.declared.error.CapError.TheVariants.{OutOfMemory, UnknownKind, BadBase32, BadNumber, BadParameters, WrongParts, LitTooLong}
use Rattle.cap_text.specs.Base32.{base32, bits, letter, IsBytes}
use Rattle.cap_text.specs.Cap.{AreParameters}
use Rattle.cap_text.specs.CapText.{parts, fields_text, AreFields, AreNumbers, HasFiveParts, HasBase32, HasNumbers, AnswersFields}
use Rattle.cap_text.proofs.Bits.{length-flat_map-bits}
use Rattle.cap_text.proofs.FieldLemmas.{part_at}
use Rattle.cap_text.proofs.Groups.{letter-small, letter-large, map-letter-injective}
use Rattle.cap_text.proofs.Reading.{spelled, small_at, parts_of_one, byte_bits-injective}

-- the numerals of `decimal`
own : IsNumeralModel (AllDigits 10) (digits_value 10)
own = numerals_by_value (AllDigits 10) tells_digits

-- bytes have a base32 text of their own
pub base32-injective : (count : ℕ) (x y : List ℕ) → IsBytes count x → IsBytes count y → base32 x ≡ base32 y → x ≡ y
base32-injective count x y px py same =
    let s = spelled (base32 x) x refl in
    let t = spelled (base32 x) y same in
    let numbers : s.numbers ≡ t.numbers = map-letter-injective s.numbers t.numbers s.small t.small (sym s.letters ∙ t.letters) in
    let both = sym s.fills.same ∙ ap (flat_map (bits 5)) numbers ∙ t.fills.same in
    let size : length x ≡ length y = px.len ∙ sym py.len in
    let parts = parts_of_one (flat_map (bits 8) x) (flat_map (bits 8) y) _ _
    (length-flat_map-bits 8 x ∙ ap (λ (k : ℕ). 8 * k) size ∙ sym (length-flat_map-bits 8 y)) both in
    byte_bits-injective x y px.below py.below parts.0

-- a letter is no colon
letter_not_colon : (n : ℕ) → n < 32 → letter n ≡ 58 → ⊥
letter_not_colon n small colon = elim (cases_lt n 26) [
  | inl low ↦ omega (arith, letter-small n low, colon)
  | inr high ↦ omega (arith, letter-large n high, colon)
]

pub base32_has_no_colon : (bytes : List ℕ) → All (λ c. eqb c 58 ≡ false) (base32 bytes)
base32_has_no_colon bytes k d inside =
    let s = spelled (base32 bytes) bytes refl in
    let within : k < length s.numbers = omega (arith, ap length s.letters ∙ length-map s.numbers letter) in
    let at : get_or (base32 bytes) k d ≡ letter (get_or s.numbers k 0) =
    ap (λ (cs : List ℕ). get_or cs k d) s.letters ∙ get_or-map letter s.numbers k 0 d within in
    ne_eqb _ 58 (λ colon. letter_not_colon (get_or s.numbers k 0) (small_at s.numbers k s.small within) (sym at ∙ colon))

pub decimal_has_no_colon : (n : ℕ) → n < 2 ^ 64 → All (λ c. eqb c 58 ≡ false) (decimal n)
decimal_has_no_colon n fits k d inside =
    ne_eqb _ 58 (λ colon. omega (arith, digit_at (decimal n) k (digits_decimal own n fits) inside, get_or_default (decimal n) k 0 d inside, colon))

-- numbers of fields that fit
below_64 : (needed total size : ℕ) → AreParameters needed total size → (needed < 2 ^ 64) × (total < 2 ^ 64) × (size < 2 ^ 64)
below_64 needed total size p = (omega (arith, p.enough, p.shares), omega (arith, p.shares), omega (arith, p.most))

-- the parts of the text of some fields
pub parts_of_fields : (f : Fields) → AreFields f
    → parts (fields_text f) ≡ base32 f.first ∷ base32 f.ueb_hash ∷ decimal f.needed ∷ decimal f.total ∷ decimal f.size ∷ []
parts_of_fields f are =
    let fit = below_64 f.needed f.total f.size are.parameters in
    slice_split_at (λ c. eqb c 58) (base32 f.first) 58 _ (base32_has_no_colon f.first) refl
    ∙ ap (λ (ps : List (List ℕ)). base32 f.first ∷ ps)
    (slice_split_at (λ c. eqb c 58) (base32 f.ueb_hash) 58 _ (base32_has_no_colon f.ueb_hash) refl
    ∙ ap (λ (ps : List (List ℕ)). base32 f.ueb_hash ∷ ps)
    (slice_split_at (λ c. eqb c 58) (decimal f.needed) 58 _ (decimal_has_no_colon f.needed fit.0) refl
    ∙ ap (λ (ps : List (List ℕ)). decimal f.needed ∷ ps)
    (slice_split_at (λ c. eqb c 58) (decimal f.total) 58 _ (decimal_has_no_colon f.total fit.1) refl
    ∙ ap (λ (ps : List (List ℕ)). decimal f.total ∷ ps) (slice_split_none (λ c. eqb c 58) (decimal f.size) (decimal_has_no_colon f.size fit.2)))))

-- the text of some fields has all that it takes
pub record FieldsText (text : List ℕ) (f : Fields) : Type 0 where
  pub five : HasFiveParts text
  pub base32s : HasBase32 text
  pub numbers : AreNumbers text f.needed f.total f.size

pub has_all : (text : List ℕ) (f : Fields) → AreFields f → text ≡ fields_text f → FieldsText text f
has_all text f are same =
    let all = ap parts same ∙ parts_of_fields f are in
    let fit = below_64 f.needed f.total f.size are.parameters in
    let at = part_at text _ _ _ _ _ all in
    record {
      five = ap length all;
      base32s = ((f.first, are.first, at 0), (f.ueb_hash, are.ueb_hash, at 1));
      numbers = record {
        needed_fits = fit.0;
        total_fits = fit.1;
        size_fits = fit.2;
        needed_is = at 2;
        total_is = at 3;
        size_is = at 4;
      };
    }

-- the numbers of a text are its only ones
pub record SameNumbers (needed total size needed' total' size' : ℕ) : Type 0 where
  pub needed_same : needed ≡ needed'
  pub total_same : total ≡ total'
  pub size_same : size ≡ size'

pub one_numbers : (text : List ℕ) (k n s k' n' s' : ℕ) → AreNumbers text k n s → AreNumbers text k' n' s' → SameNumbers k n s k' n' s'
one_numbers text k n s k' n' s' p q = record {
  needed_same = decimal_injective k k' p.needed_fits q.needed_fits (sym p.needed_is ∙ q.needed_is);
  total_same = decimal_injective n n' p.total_fits q.total_fits (sym p.total_is ∙ q.total_is);
  size_same = decimal_injective s s' p.size_fits q.size_fits (sym p.size_is ∙ q.size_is);
}

same_fields : (a a' b b' : List ℕ) (k k' n n' s s' : ℕ) → a ≡ a' → b ≡ b' → k ≡ k' → n ≡ n' → s ≡ s'
    → ◌≡◌ {A = Fields} (record { first = a; ueb_hash = b; needed = k; total = n; size = s }) (record { first = a'; ueb_hash = b'; needed = k'; total = n'; size = s' })
same_fields a a' b b' k k' n n' s s' first second third fourth fifth = cc

-- fields have a text of their own
pub fields_text-injective : (f g : Fields) → AreFields f → AreFields g → fields_text f ≡ fields_text g → f ≡ g
fields_text-injective f g p q same =
    let all = sym (parts_of_fields f p) ∙ ap parts same ∙ parts_of_fields g q in
    let first = base32-injective 16 f.first g.first p.first q.first (ap (λ (ps : List (List ℕ)). get_or ps 0 []) all) in
    let second = base32-injective 32 f.ueb_hash g.ueb_hash p.ueb_hash q.ueb_hash (ap (λ (ps : List (List ℕ)). get_or ps 1 []) all) in
    let numbers = one_numbers _ _ _ _ _ _ _ (has_all (fields_text g) f p (sym same)).numbers (has_all (fields_text g) g q refl).numbers in
    same_fields f.first g.first f.ueb_hash g.ueb_hash f.needed g.needed f.total g.total f.size g.size first second
    numbers.needed_same numbers.total_same numbers.size_same

-- how far a text gets
stage : Result Fields CapError → ℕ
stage (Err WrongParts) = 0
stage (Err BadBase32) = 1
stage (Err BadNumber) = 2
stage (Err BadParameters) = 3
stage (Ok f) = 4
stage (Err UnknownKind) = 5
stage (Err LitTooLong) = 6
stage (Err OutOfMemory) = 7

Reaches : List ℕ → ℕ → Type 0
Reaches text zero = Unit {0}
Reaches text (suc zero) = HasFiveParts text
Reaches text (suc (suc zero)) = HasFiveParts text × HasBase32 text
Reaches text (suc (suc (suc zero))) = HasFiveParts text × HasBase32 text × HasNumbers text
Reaches text (suc (suc (suc (suc zero)))) = (f : Fields) × AreFields f × (text ≡ fields_text f)
Reaches text (suc (suc (suc (suc (suc n))))) = ⊥

has_numbers : (text : List ℕ) (k n s : ℕ) → AreNumbers text k n s → HasNumbers text
has_numbers text k n s p = ((k, p.needed_fits, p.needed_is), (n, p.total_fits, p.total_is), (s, p.size_fits, p.size_is))

reached : (text : List ℕ) (r : Result Fields CapError) → AnswersFields text r → Reaches text (stage r)
unfolding stage Reaches
reached text (Err WrongParts) p = tt
reached text (Err BadBase32) p = p.0
reached text (Err BadNumber) p = (p.0, p.1)
reached text (Err BadParameters) p = let n = p.2 in (p.0, p.1, has_numbers text n.0 n.1 n.2 n.3)
reached text (Ok f) p = (f, p.0, p.1)
reached text (Err UnknownKind) p = p
reached text (Err LitTooLong) p = p
reached text (Err OutOfMemory) p = p

not_further : (text : List ℕ) (r : Result Fields CapError) → AnswersFields text r → Reaches text (suc (stage r)) → ⊥
unfolding stage Reaches
not_further text (Err WrongParts) p q = p q
not_further text (Err BadBase32) p q = p.1 q.1
not_further text (Err BadNumber) p q = p.2 q.2
not_further text (Err BadParameters) p q =
    let n = p.2 in
    let same = one_numbers text _ _ _ _ _ _ (has_all text q.0 q.1 q.2).numbers n.3 in
    n.4 (rw (← same.needed_same, ← same.total_same, ← same.size_same) q.1.parameters)
not_further text (Ok f) p q = q
not_further text (Err UnknownKind) p q = p
not_further text (Err LitTooLong) p q = p
not_further text (Err OutOfMemory) p q = p

one_down : (text : List ℕ) (n : ℕ) → Reaches text (suc n) → Reaches text n
unfolding Reaches
one_down text zero p = tt
one_down text (suc zero) p = p.0
one_down text (suc (suc zero)) p = (p.0, p.1)
one_down text (suc (suc (suc zero))) p =
    let all = has_all text p.0 p.1 p.2 in (all.five, all.base32s, has_numbers text _ _ _ all.numbers)
one_down text (suc (suc (suc (suc n)))) p = absurd p

down : (text : List ℕ) (m k n : ℕ) → n ≡ k + m → Reaches text n → Reaches text m
down text m zero n e p = let same : n ≡ m = omega arith in subst (Reaches text) same p
down text m (suc k) n e p = one_down text m (down text (suc m) k n (omega arith) p)

same_stage : (text : List ℕ) (r s : Result Fields CapError) → AnswersFields text r → AnswersFields text s → stage r ≡ stage s
same_stage text r s p q = elim (cases_order (stage r) (stage s)) [
  | inl same ↦ same
  | inr (inl less) ↦ absurd (not_further text r p (down text (suc (stage r)) (stage s - suc (stage r)) (stage s) (omega arith) (reached text s q)))
  | inr (inr more) ↦ absurd (not_further text s q (down text (suc (stage s)) (stage r - suc (stage s)) (stage r) (omega arith) (reached text r p)))
]

-- errors by stage
error_at : ℕ → CapError
error_at zero = WrongParts
error_at (suc zero) = BadBase32
error_at (suc (suc zero)) = BadNumber
error_at (suc (suc (suc zero))) = BadParameters
error_at (suc (suc (suc (suc zero)))) = OutOfMemory
error_at (suc (suc (suc (suc (suc zero))))) = UnknownKind
error_at (suc (suc (suc (suc (suc (suc zero)))))) = LitTooLong
error_at (suc (suc (suc (suc (suc (suc (suc n))))))) = OutOfMemory

error_of_stage : (e : CapError) → e ≡ error_at (stage (Err e))
unfolding stage error_at
error_of_stage WrongParts = refl
error_of_stage BadBase32 = refl
error_of_stage BadNumber = refl
error_of_stage BadParameters = refl
error_of_stage UnknownKind = refl
error_of_stage LitTooLong = refl
error_of_stage OutOfMemory = refl

no_error_stage : (e : CapError) → stage (Err e) ≡ 4 → ⊥
unfolding stage
no_error_stage WrongParts p = omega arith
no_error_stage BadBase32 p = omega arith
no_error_stage BadNumber p = omega arith
no_error_stage BadParameters p = omega arith
no_error_stage UnknownKind p = omega arith
no_error_stage LitTooLong p = omega arith
no_error_stage OutOfMemory p = omega arith

-- a text has one answer
pub one_answer : (text : List ℕ) (r s : Result Fields CapError) → AnswersFields text r → AnswersFields text s → r ≡ s
unfolding stage
one_answer text (Ok f) (Ok g) p q = ap Ok (fields_text-injective f g p.0 q.0 (sym p.1 ∙ q.1))
one_answer text (Ok f) (Err e) p q = absurd (no_error_stage e (sym (same_stage text (Ok f) (Err e) p q)))
one_answer text (Err e) (Ok g) p q = absurd (no_error_stage e (same_stage text (Err e) (Ok g) p q))
one_answer text (Err e) (Err d) p q = ap Err (error_of_stage e ∙ ap error_at (same_stage text (Err e) (Err d) p q) ∙ sym (error_of_stage d))
