-- A text is that of one cap, or has one first fault.
use Rattle.std.proofs.Common.{◌≡◌, ◌⊎◌, ◌↔◌, inl, inr, ℕ, ◌*◌, ◌/◌, ◌<◌, ◌≤◌, List, ◌++◌, length, get_or, drop, Result, Ok, Err, refl, sym, ap, subst, ◌∙◌, arith}
use Rattle.std.specs.Prelude.{codes}
use Rattle.cap_text.specs.Cap.{max_lit_size, max_lit_letters}
use Rattle.cap_text.specs.declared.cap.Cap.{Cap}
use Rattle.cap_text.specs.declared.cap.Cap.TheVariants.{Chk, Verify, Lit}
use Rattle.cap_text.specs.declared.fields.Fields.{Fields}
use Rattle.cap_text.specs.declared.text.Kind.{Kind}
use Rattle.cap_text.specs.declared.text.Kind.TheVariants.{Read, Check, Literal}
use Rattle.cap_text.specs.declared.error.CapError.{CapError}
use Rattle.cap_text.specs.declared.error.CapError.TheVariants.{OutOfMemory, UnknownKind, BadBase32, BadNumber, BadParameters, WrongParts, LitTooLong}
use Rattle.cap_text.specs.Base32.{base32}
use Rattle.cap_text.specs.Cap.{IsLitCap}
use Rattle.cap_text.specs.CapText.{Answers, AnswersFields, AnswersLit, Begins, BeginsAs, IsBase32, IsUnknownKind, beginning, fields_text, read_cap_of, verify_cap_from}
use Rattle.cap_text.proofs.OneText.{one_answer, base32-injective}
use Rattle.cap_text.proofs.Reading.{spelled, sizes}

-- the answer for a cap from that for what follows the beginning
abbrev pub as_read : Result Fields CapError → Result Cap CapError
as_read (Ok f) = Ok (Chk (read_cap_of f))
as_read (Err e) = Err e

abbrev pub as_verify : Result Fields CapError → Result Cap CapError
as_verify (Ok f) = Ok (Verify (verify_cap_from f))
as_verify (Err e) = Err e

abbrev pub as_lit : Result (List ℕ) CapError → Result Cap CapError
as_lit (Ok file) = Ok (Lit file)
as_lit (Err e) = Err e

fields_fault : (text rest : List ℕ) (e : CapError) → Begins text rest → AnswersFields rest (Err e) → Answers text (Err e)
fields_fault text rest WrongParts begins p = (rest, begins, p)
fields_fault text rest BadBase32 begins p = inl (rest, begins, p)
fields_fault text rest BadNumber begins p = (rest, begins, p)
fields_fault text rest BadParameters begins p = (rest, begins, p)
fields_fault text rest UnknownKind begins p = absurd p
fields_fault text rest LitTooLong begins p = absurd p
fields_fault text rest OutOfMemory begins p = absurd p

pub from_read : (text rest : List ℕ) (q : Result Fields CapError) → BeginsAs Read text rest → AnswersFields rest q → Answers text (as_read q)
from_read text rest (Ok f) begins p =
    (record { key = p.0.first; ueb_hash = p.0.ueb_hash; parameters = p.0.parameters }, begins ∙ ap (λ (more : List ℕ). codes "URI:CHK:" ++ more) p.1)
from_read text rest (Err e) begins p = fields_fault text rest e (inl begins) p

pub from_verify : (text rest : List ℕ) (q : Result Fields CapError) → BeginsAs Check text rest → AnswersFields rest q → Answers text (as_verify q)
from_verify text rest (Ok f) begins p =
    (record { storage_index = p.0.first; ueb_hash = p.0.ueb_hash; parameters = p.0.parameters }, begins ∙ ap (λ (more : List ℕ). codes "URI:CHK-Verifier:" ++ more) p.1)
from_verify text rest (Err e) begins p = fields_fault text rest e (inr begins) p

pub from_lit : (text rest : List ℕ) (q : Result (List ℕ) CapError) → BeginsAs Literal text rest → AnswersLit rest q → Answers text (as_lit q)
from_lit text rest (Ok file) begins p = (p.0, begins ∙ ap (λ (more : List ℕ). codes "URI:LIT:" ++ more) p.1)
from_lit text rest (Err LitTooLong) begins p = (rest, begins, p)
from_lit text rest (Err BadBase32) begins p = inr (rest, begins, p)
from_lit text rest (Err WrongParts) begins p = absurd p
from_lit text rest (Err BadNumber) begins p = absurd p
from_lit text rest (Err BadParameters) begins p = absurd p
from_lit text rest (Err UnknownKind) begins p = absurd p
from_lit text rest (Err OutOfMemory) begins p = absurd p

-- how many bytes letters spell
pub bytes_of_letters : (text bytes : List ℕ) → text ≡ base32 bytes → length bytes ≡ length text * 5 / 8
bytes_of_letters text bytes same =
    let s = spelled text bytes same in
    let size = sizes text bytes s in
    omega (arith, size.few, size.total)

-- letters that are not too long spell a short file, and only they
pub short_file : (text bytes : List ℕ) → text ≡ base32 bytes → length text ≤ max_lit_letters → length bytes ≤ max_lit_size
short_file text bytes same short = omega (arith, bytes_of_letters text bytes same)

pub short_text : (text bytes : List ℕ) → text ≡ base32 bytes → length bytes ≤ max_lit_size → length text ≤ max_lit_letters
short_text text bytes same short =
    let s = spelled text bytes same in
    let size = sizes text bytes s in
    omega (arith, size.few, size.total)

-- the answers for letters
record IsFile (text : List ℕ) (r : Result (List ℕ) CapError) : Type 0 where
  file : List ℕ
  same : r ≡ Ok file
  cap : IsLitCap file
  spells : text ≡ base32 file

lit_cases : (text : List ℕ) (r : Result (List ℕ) CapError) → AnswersLit text r
    → IsFile text r ⊎ (((r ≡ Err LitTooLong) × AnswersLit text (Err LitTooLong)) ⊎ ((r ≡ Err BadBase32) × AnswersLit text (Err BadBase32)))
lit_cases text (Ok file) p = inl (record { file = file; same = refl; cap = p.0; spells = p.1 })
lit_cases text (Err LitTooLong) p = inr (inl (refl, p))
lit_cases text (Err BadBase32) p = inr (inr (refl, p))
lit_cases text (Err WrongParts) p = absurd p
lit_cases text (Err BadNumber) p = absurd p
lit_cases text (Err BadParameters) p = absurd p
lit_cases text (Err UnknownKind) p = absurd p
lit_cases text (Err OutOfMemory) p = absurd p

not_too_long : (text : List ℕ) (r : Result (List ℕ) CapError) → IsFile text r → max_lit_letters < length text → ⊥
not_too_long text r of long = omega (arith, short_text text of.file of.spells of.cap.short)

not_bad : (text : List ℕ) (r : Result (List ℕ) CapError) → IsFile text r → ((count : ℕ) → IsBase32 count text → ⊥) → ⊥
not_bad text r of none = none (length of.file) (of.file, record { len = refl; below = of.cap.below }, of.spells)

one_file : (text : List ℕ) (r s : Result (List ℕ) CapError) → IsFile text r → IsFile text s → r ≡ s
one_file text r s p q =
    let size : length p.file ≡ length q.file = bytes_of_letters text p.file p.spells ∙ sym (bytes_of_letters text q.file q.spells) in
    p.same
    ∙ ap Ok
    (base32-injective (length q.file) p.file q.file (record { len = size; below = p.cap.below }) (record { len = refl; below = q.cap.below })
    (sym p.spells ∙ q.spells))
    ∙ sym q.same

one_lit : (text : List ℕ) (r s : Result (List ℕ) CapError) → AnswersLit text r → AnswersLit text s → r ≡ s
one_lit text r s p q = elim (lit_cases text r p) [
  | inl of ↦ elim (lit_cases text s q) [
    | inl of' ↦ one_file text r s of of'
    | inr (inl long) ↦ absurd (not_too_long text r of long.1)
    | inr (inr bad) ↦ absurd (not_bad text r of bad.1.1)
  ]
  | inr (inl long) ↦ elim (lit_cases text s q) [
    | inl of' ↦ absurd (not_too_long text s of' long.1)
    | inr (inl long') ↦ long.0 ∙ sym long'.0
    | inr (inr bad) ↦ absurd (omega (arith, long.1, bad.1.0))
  ]
  | inr (inr bad) ↦ elim (lit_cases text s q) [
    | inl of' ↦ absurd (not_bad text s of' bad.1.1)
    | inr (inl long) ↦ absurd (omega (arith, long.1, bad.1.0))
    | inr (inr bad') ↦ bad.0 ∙ sym bad'.0
  ]
]

-- the answer for what follows the beginning
AnswersAs : Kind → List ℕ → Result Cap CapError → Type 0
AnswersAs Read rest r = (q : Result Fields CapError) × AnswersFields rest q × (r ≡ as_read q)
AnswersAs Check rest r = (q : Result Fields CapError) × AnswersFields rest q × (r ≡ as_verify q)
AnswersAs Literal rest r = (q : Result (List ℕ) CapError) × AnswersLit rest q × (r ≡ as_lit q)

one_as : (kind : Kind) (rest : List ℕ) (r s : Result Cap CapError) → AnswersAs kind rest r → AnswersAs kind rest s → r ≡ s
unfolding AnswersAs
one_as Read rest r s p q = p.2 ∙ ap as_read (one_answer rest p.0 q.0 p.1 q.1) ∙ sym q.2
one_as Check rest r s p q = p.2 ∙ ap as_verify (one_answer rest p.0 q.0 p.1 q.1) ∙ sym q.2
one_as Literal rest r s p q = p.2 ∙ ap as_lit (one_lit rest p.0 q.0 p.1 q.1) ∙ sym q.2

record IsOf (text : List ℕ) (r : Result Cap CapError) : Type 0 where
  kind : Kind
  rest : List ℕ
  begins : BeginsAs kind text rest
  answers : AnswersAs kind rest r

of_fault : (text rest : List ℕ) (e : CapError) → Begins text rest → AnswersFields rest (Err e) → IsOf text (Err e)
unfolding AnswersAs
of_fault text rest e (inl read) p = record { kind = Read; rest = rest; begins = read; answers = (Err e, p, refl) }
of_fault text rest e (inr check) p = record { kind = Check; rest = rest; begins = check; answers = (Err e, p, refl) }

kinds : (text : List ℕ) (r : Result Cap CapError) → Answers text r → ((r ≡ Err UnknownKind) × IsUnknownKind text) ⊎ IsOf text r
unfolding AnswersAs
kinds text (Ok (Chk c)) p =
    let f : Fields = record { first = c.key; ueb_hash = c.ueb_hash; needed = c.needed; total = c.total; size = c.size } in
    inr (record {
      kind = Read;
      rest = fields_text f;
      begins = p.1;
      answers = (Ok f, (record { first = p.0.key; ueb_hash = p.0.ueb_hash; parameters = p.0.parameters }, refl), refl);
    })
kinds text (Ok (Verify c)) p =
    let f : Fields = record { first = c.storage_index; ueb_hash = c.ueb_hash; needed = c.needed; total = c.total; size = c.size } in
    inr (record {
      kind = Check;
      rest = fields_text f;
      begins = p.1;
      answers = (Ok f, (record { first = p.0.storage_index; ueb_hash = p.0.ueb_hash; parameters = p.0.parameters }, refl), refl);
    })
kinds text (Ok (Lit file)) p = inr (record { kind = Literal; rest = base32 file; begins = p.1; answers = (Ok file, (p.0, refl), refl) })
kinds text (Err UnknownKind) p = inl (refl, p)
kinds text (Err WrongParts) p = inr (of_fault text p.0 WrongParts p.1 p.2)
kinds text (Err BadBase32) (inl p) = inr (of_fault text p.0 BadBase32 p.1 p.2)
kinds text (Err BadBase32) (inr p) = inr (record { kind = Literal; rest = p.0; begins = p.1; answers = (Err BadBase32, p.2, refl) })
kinds text (Err BadNumber) p = inr (of_fault text p.0 BadNumber p.1 p.2)
kinds text (Err BadParameters) p = inr (of_fault text p.0 BadParameters p.1 p.2)
kinds text (Err LitTooLong) p = inr (record { kind = Literal; rest = p.0; begins = p.1; answers = (Err LitTooLong, p.2, refl) })
kinds text (Err OutOfMemory) p = absurd p

-- no text begins in two ways
pub one_beginning : (k l : Kind) (rest more : List ℕ) → beginning k ++ rest ≡ beginning l ++ more → (k ≡ l) × (rest ≡ more)
one_beginning Read Read rest more same = (refl, ap (drop 8) same)
one_beginning Check Check rest more same = (refl, ap (drop 17) same)
one_beginning Literal Literal rest more same = (refl, ap (drop 8) same)
one_beginning Read Check rest more same = absurd (omega (arith, ap (λ (t : List ℕ). get_or t 7 0) same))
one_beginning Check Read rest more same = absurd (omega (arith, ap (λ (t : List ℕ). get_or t 7 0) same))
one_beginning Read Literal rest more same = absurd (omega (arith, ap (λ (t : List ℕ). get_or t 4 0) same))
one_beginning Literal Read rest more same = absurd (omega (arith, ap (λ (t : List ℕ). get_or t 4 0) same))
one_beginning Check Literal rest more same = absurd (omega (arith, ap (λ (t : List ℕ). get_or t 4 0) same))
one_beginning Literal Check rest more same = absurd (omega (arith, ap (λ (t : List ℕ). get_or t 4 0) same))

pub one_cap_answer : (text : List ℕ) (r s : Result Cap CapError) → Answers text r → Answers text s → r ≡ s
one_cap_answer text r s p q = elim (kinds text r p) [
  | inl unknown ↦ elim (kinds text s q) [
    | inl unknown' ↦ unknown.0 ∙ sym unknown'.0
    | inr of' ↦ absurd (unknown.1 of'.kind of'.rest of'.begins)
  ]
  | inr of ↦ elim (kinds text s q) [
    | inl unknown' ↦ absurd (unknown'.1 of.kind of.rest of.begins)
    | inr of' ↦
        let same = one_beginning of.kind of'.kind of.rest of'.rest (sym of.begins ∙ of'.begins) in
        let of_kind = subst (λ (k : Kind). AnswersAs k of.rest r) same.0 of.answers in
        let of_rest = subst (λ (t : List ℕ). AnswersAs of'.kind t r) same.1 of_kind in
        one_as of'.kind of'.rest r s of_rest of'.answers
  ]
]

-- what is answered is answered exactly where it holds
pub exactly : (text : List ℕ) (r s : Result Cap CapError) → Answers text r → (r ≡ s) ↔ Answers text s
exactly text r s p = (λ same. subst (Answers text) same p, λ q. one_cap_answer text r s p q)
