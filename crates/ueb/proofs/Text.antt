-- Colons, keys, decimal texts and netstrings: what stands in front of a text is determined by the text.
use Rattle.std.proofs.Common.{◌≡◌, ℕ, suc, zero, ◌+◌, ◌^◌, ◌<◌, ◌≤◌, Bool, true, false, not, cond, ltb, ◌==◌, List, [], ◌∷◌, ◌++◌, length, get_or, take, drop, eqb, Some, None, refl, sym, ap, subst, ◌∙◌, append_assoc, length-append, arith}
use Rattle.std.specs.Prelude.{IsTrue, decimal}
use Rattle.std.specs.List.{list_all, position, position_or_len}
use Rattle.std.specs.Str.Parse.{AllDigits}
use Rattle.std.proofs.lemmas.Bool.{and_parts, both_ways, ltb-false, eqb-true, eq-eqb}
use Rattle.std.proofs.lemmas.Str.Parse.{digit_from_value}
use Rattle.std.proofs.lemmas.Fmt.{decimal_is_IsNumeral, decimal_injective}
use Rattle.std.proofs.lemmas.List.{take-append-drop, drop_more, get_or_at}
use Rattle.std.proofs.lemmas.List.Quantifiers.{position-Some}
use Rattle.tagged_hash.specs.TaggedHash.{netstring}
use Rattle.ueb.specs.Fields.{Field, is_key_byte, IsKey, field_text}
use Rattle.ueb.specs.Splits.{HasNoColon}

-- ---- colons

pub no_colon_in_key : (key : List ℕ) → IsTrue (list_all is_key_byte key) → HasNoColon key
no_colon_in_key [] h = tt
no_colon_in_key (b ∷ bs) h =
    let p = and_parts (is_key_byte b) (list_all is_key_byte bs) h in
    ((λ e. both_ways (is_key_byte b) (ap is_key_byte e) p.0), no_colon_in_key bs p.1)

no_colon_in_digits : (ds : List ℕ) → AllDigits 10 ds → HasNoColon ds
no_colon_in_digits [] d = tt
no_colon_in_digits (c ∷ cs) d = ((λ e. omega (arith, digit_from_value c d.0, e)), no_colon_in_digits cs d.1)

pub no_colon_in_decimal : (n : ℕ) → n < 2 ^ 64 → HasNoColon (decimal n)
no_colon_in_decimal n small = no_colon_in_digits (decimal n) (decimal_is_IsNumeral n small).0.1

pub colon_stands : (front after : List ℕ) → HasNoColon (front ++ 58 ∷ after) → ⊥
colon_stands [] after h = h.0 refl
colon_stands (b ∷ front) after h = colon_stands front after h.1

-- the first colon is one
pub colon_unique : (x y a b : List ℕ) → HasNoColon x → HasNoColon y → x ++ 58 ∷ a ≡ y ++ 58 ∷ b → (x ≡ y) × (a ≡ b)
colon_unique [] [] a b p q e = (refl, cc)
colon_unique [] (d ∷ y) a b p q e = absurd (q.0 (cc))
colon_unique (c ∷ x) [] a b p q e = absurd (p.0 (cc))
colon_unique (c ∷ x) (d ∷ y) a b p q e =
    let tails : x ++ 58 ∷ a ≡ y ++ 58 ∷ b = cc in
    let r = colon_unique x y a b p.1 q.1 tails in
    (cc, r.1)

-- ---- netstrings

pub netstring_form : (value more : List ℕ) → netstring value ++ more ≡ decimal (length value) ++ 58 ∷ (value ++ 44 ∷ more)
netstring_form value more =
    append_assoc (decimal (length value)) (58 ∷ (value ++ 44 ∷ [])) more
    ∙ ap (λ (t : List ℕ). decimal (length value) ++ 58 ∷ t) (append_assoc value (44 ∷ []) more)

pub length-netstring : (value more bytes : List ℕ) → bytes ≡ netstring value ++ more → length value + length more < length bytes
length-netstring value more bytes e =
    omega (arith, ap length (e ∙ netstring_form value more), length-append (decimal (length value)) (58 ∷ (value ++ 44 ∷ more)), length-append value (44 ∷ more))

-- where a netstring stands in front, its length stands before the first colon, and then its bytes and a comma
pub netstring_stands : (bytes digits rest value more : List ℕ) → length bytes < 2 ^ 64 → bytes ≡ digits ++ 58 ∷ rest → HasNoColon digits → bytes ≡ netstring value ++ more
    → (length value < 2 ^ 64) × (digits ≡ decimal (length value)) × (rest ≡ value ++ 44 ∷ more)
netstring_stands bytes digits rest value more small split no_colon e =
    let short : length value < 2 ^ 64 = omega (arith, length-netstring value more bytes e) in
    let same = colon_unique digits (decimal (length value)) rest (value ++ 44 ∷ more) no_colon (no_colon_in_decimal (length value) short) (sym split ∙ e ∙ netstring_form value more) in
    (short, same.0, same.1)

-- the comma stands where the length says
pub comma_stands : (n : ℕ) (digits rest value more : List ℕ) → n < 2 ^ 64 → digits ≡ decimal n → length value < 2 ^ 64 → digits ≡ decimal (length value) → rest ≡ value ++ 44 ∷ more
    → (n < length rest) × (get_or rest n 0 ≡ 44)
comma_stands n digits rest value more small is_n short is_len e =
    let same : length value ≡ n = sym (decimal_injective n (length value) small short (sym is_n ∙ is_len)) in
    (omega (arith, ap length e, length-append value (44 ∷ more)), ap (λ (t : List ℕ). get_or t n 0) e ∙ get_or_at value 44 more 0 n same)

same_front : (a x b y : List ℕ) → length a ≡ length b → a ++ x ≡ b ++ y → (a ≡ b) × (x ≡ y)
same_front [] x [] y len e = (refl, e)
same_front [] x (d ∷ b) y len e = absurd (omega (arith, len))
same_front (c ∷ a) x [] y len e = absurd (omega (arith, len))
same_front (c ∷ a) x (d ∷ b) y len e =
    let tails : a ++ x ≡ b ++ y = cc in
    let r = same_front a x b y (omega (arith, len)) tails in
    (cc, r.1)

pub netstring_unique : (bytes v a w b : List ℕ) → length bytes < 2 ^ 64 → bytes ≡ netstring v ++ a → bytes ≡ netstring w ++ b → (v ≡ w) × (a ≡ b)
netstring_unique bytes v a w b small p q =
    let short_v : length v < 2 ^ 64 = omega (arith, length-netstring v a bytes p) in
    let s = netstring_stands bytes (decimal (length v)) (v ++ 44 ∷ a) w b small (p ∙ netstring_form v a) (no_colon_in_decimal (length v) short_v) q in
    let len : length v ≡ length w = decimal_injective (length v) (length w) short_v s.0 s.1 in
    let r = same_front v (44 ∷ a) w (44 ∷ b) len s.2 in
    let tails : 44 ∷ a ≡ 44 ∷ b = r.1 in
    (r.0, cc)

-- ---- fields

pub field_form : (f : Field) (more : List ℕ) → field_text f ++ more ≡ f.key ++ 58 ∷ (netstring f.value ++ more)
field_form f more = append_assoc f.key (58 ∷ netstring f.value) more

pub field_unique : (bytes : List ℕ) (f g : Field) (a b : List ℕ) → length bytes < 2 ^ 64 → IsKey f.key → IsKey g.key → bytes ≡ field_text f ++ a → bytes ≡ field_text g ++ b
    → (f.key ≡ g.key) × (f.value ≡ g.value) × (a ≡ b)
field_unique bytes f g a b small kf kg p q =
    let keys = colon_unique f.key g.key (netstring f.value ++ a) (netstring g.value ++ b) (no_colon_in_key f.key kf.bytes) (no_colon_in_key g.key kg.bytes) (sym (field_form f a) ∙ sym p ∙ q ∙ field_form g b) in
    let inside : length (netstring f.value ++ a) < 2 ^ 64 = omega (arith, ap length (p ∙ field_form f a), length-append f.key (58 ∷ (netstring f.value ++ a))) in
    let values = netstring_unique (netstring f.value ++ a) f.value a g.value b inside refl keys.1 in
    (keys.0, values.0, values.1)

-- ---- where the first colon stands

abbrev is_colon : ℕ → Bool
is_colon byte = byte == 58

goes_past : (t : Bool) (n m : ℕ) → suc n ≤ cond (not t) (1 + m) 0 → (t ≡ false) × (n ≤ m)
goes_past true n m h = absurd (omega arith)
goes_past false n m h = (refl, omega arith)

none_past : (bytes : List ℕ) → length bytes ≤ position_or_len is_colon bytes → HasNoColon bytes
none_past [] h = tt
none_past (b ∷ bytes) h =
    let s = goes_past (eqb b 58) (length bytes) (position_or_len is_colon bytes) h in
    ((λ e. both_ways (eqb b 58) s.0 (eq-eqb b 58 e)), none_past bytes s.1)

not_there : {X : Type 0} (t : Bool) (x : X) → cond t (Some x) None ≡ None → t ≡ false
not_there true x e = absurd (cc)
not_there false x e = refl

pub no_colon_in : (bytes : List ℕ) → position is_colon bytes ≡ None → HasNoColon bytes
no_colon_in bytes e =
    none_past bytes (ltb-false (position_or_len is_colon bytes) (length bytes) (not_there (ltb (position_or_len is_colon bytes) (length bytes)) (position_or_len is_colon bytes) e))

none_before : (bytes : List ℕ) (i : ℕ) → ((k : ℕ) → k < i → eqb (get_or bytes k 0) 58 ≡ false) → HasNoColon (take i bytes)
none_before bytes zero h = tt
none_before [] (suc i) h = tt
none_before (b ∷ bytes) (suc i) h =
    ((λ e. both_ways (eqb b 58) (h 0 (omega arith)) (eq-eqb b 58 e)), none_before bytes i (λ k lt. h (suc k) (omega arith)))

pub no_colon_before : (bytes : List ℕ) (i : ℕ) → position is_colon bytes ≡ Some i → HasNoColon (take i bytes)
no_colon_before bytes i e = none_before bytes i (position-Some is_colon bytes i 0 e).2

pub split_at_it : (bytes : List ℕ) (i : ℕ) → position is_colon bytes ≡ Some i → bytes ≡ take i bytes ++ 58 ∷ drop (i + 1) bytes
split_at_it bytes i e =
    let h = position-Some is_colon bytes i 0 e in
    let here : get_or bytes i 0 ≡ 58 = eqb-true _ _ h.1 in
    sym (take-append-drop i bytes) ∙ ap (λ (t : List ℕ). take i bytes ++ t) (drop_more bytes i 0 h.0 ∙ ap (λ (b : ℕ). b ∷ drop (i + 1) bytes) here)

pub no_colon_anywhere : (bytes value more : List ℕ) → HasNoColon bytes → bytes ≡ netstring value ++ more → ⊥
no_colon_anywhere bytes value more h e =
    colon_stands (decimal (length value)) (value ++ 44 ∷ more) (subst (λ (t : List ℕ). HasNoColon t) (e ∙ netstring_form value more) h)
