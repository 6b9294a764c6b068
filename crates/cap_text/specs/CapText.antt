-- The texts of caps.
use Rattle.std.specs.Prelude.{◌≡◌, ◌==◌, ℕ, ◌<◌, ◌≤◌, ◌^◌, ◌⊎◌, List, [], ◌∷◌, ◌++◌, length, codes}
use Rattle.std.specs.Prelude.{decimal, Result, Ok, Err}
use Rattle.std.specs.List.{slice_split, slice_index_or, join_with_byte}
use Rattle.cap_text.specs.declared.fields.Fields.{Fields}
use Rattle.cap_text.specs.declared.cap.Cap.{Cap}
use Rattle.cap_text.specs.declared.cap.Cap.TheVariants.{Chk, Verify, Lit}
use Rattle.cap_text.specs.declared.cap.LitCap.{LitCap}
use Rattle.cap_text.specs.declared.text.Kind.{Kind}
use Rattle.cap_text.specs.declared.text.Kind.TheVariants.{Read, Check, Literal}
use Rattle.cap_text.specs.declared.error.CapError.{CapError}
use Rattle.cap_text.specs.declared.error.CapError.TheVariants.{OutOfMemory, UnknownKind, BadBase32}
use Rattle.cap_text.specs.declared.error.CapError.TheVariants.{BadNumber, BadParameters, WrongParts}
use Rattle.cap_text.specs.declared.error.CapError.TheVariants.{LitTooLong}
use Rattle.tagged_hash.specs.Decimal.{IsDecimal}
use Rattle.cap_text.specs.Base32.{base32, IsBytes}
use Rattle.cap_text.specs.Cap.{ReadCapValue, VerifyCapValue, AreParameters, max_lit_letters}
use Rattle.cap_text.specs.Cap.{IsReadCap, IsVerifyCap, IsLitCap, read_cap_value, verify_cap_value}

-- this is the base32 text of so many bytes
abbrev pub IsBase32 : ℕ → List ℕ → Type 0
IsBase32 count text = (bytes : List ℕ) × IsBytes count bytes × (text ≡ base32 bytes)

-- the parts of a text between its colons
abbrev pub parts : List ℕ → List (List ℕ)
parts text = slice_split (λ c. c == 58) text

-- the part at a position
abbrev pub part : List ℕ → ℕ → List ℕ
part text i = slice_index_or (parts text) i []

abbrev pub HasFiveParts : List ℕ → Type 0
HasFiveParts text = length (parts text) ≡ 5

-- the first two parts are the base32 text of 16 and of 32 bytes
abbrev pub HasBase32 : List ℕ → Type 0
HasBase32 text = IsBase32 16 (part text 0) × IsBase32 32 (part text 1)

-- the other three are numbers
abbrev pub HasNumbers : List ℕ → Type 0
HasNumbers text = IsDecimal (part text 2) × IsDecimal (part text 3) × IsDecimal (part text 4)

-- they are these numbers
pub record AreNumbers (text : List ℕ) (needed total size : ℕ) : Type 0 where
  pub needed_fits : needed < 2 ^ 64
  pub total_fits : total < 2 ^ 64
  pub size_fits : size < 2 ^ 64
  pub needed_is : part text 2 ≡ decimal needed
  pub total_is : part text 3 ≡ decimal total
  pub size_is : part text 4 ≡ decimal size

-- such fields a read cap or a verify cap may have
pub record AreFields (f : Fields) : Type 0 where
  pub first : IsBytes 16 f.first
  pub ueb_hash : IsBytes 32 f.ueb_hash
  pub parameters : AreParameters f.needed f.total f.size

-- the text of the fields: with a colon between any two
abbrev pub fields_text : Fields → List ℕ
fields_text f = join_with_byte 58
    (base32 f.first ∷ base32 f.ueb_hash ∷ decimal f.needed ∷ decimal f.total ∷ decimal f.size ∷ [])

-- the fields that the text spells, or its first fault
abbrev pub AnswersFields : List ℕ → Result Fields CapError → Type 0
AnswersFields text (Ok f) = AreFields f × (text ≡ fields_text f)
AnswersFields text (Err WrongParts) = ¬ (HasFiveParts text)
AnswersFields text (Err BadBase32) = HasFiveParts text × ¬ (HasBase32 text)
AnswersFields text (Err BadNumber) = HasFiveParts text × HasBase32 text × ¬ (HasNumbers text)
AnswersFields text (Err BadParameters) = HasFiveParts text × HasBase32 text
    × ((needed total size : ℕ) × AreNumbers text needed total size
    × ¬ (AreParameters needed total size))
AnswersFields text (Err UnknownKind) = ⊥
AnswersFields text (Err LitTooLong) = ⊥
AnswersFields text (Err OutOfMemory) = ⊥

-- what the text of each kind of cap begins with
abbrev pub beginning : Kind → List ℕ
beginning Read = codes "URI:CHK:"
beginning Check = codes "URI:CHK-Verifier:"
beginning Literal = codes "URI:LIT:"

-- the text begins as that of a cap of this kind, and goes on so
abbrev pub BeginsAs : Kind → List ℕ → List ℕ → Type 0
BeginsAs kind text rest = text ≡ beginning kind ++ rest

-- the text begins as that of a read cap or a verify cap, and goes on so
abbrev pub Begins : List ℕ → List ℕ → Type 0
Begins text rest = BeginsAs Read text rest ⊎ BeginsAs Check text rest

-- the text of each cap
abbrev pub read_cap_text : ReadCapValue → List ℕ
read_cap_text c = codes "URI:CHK:" ++ fields_text (record {
  first = c.key;
  ueb_hash = c.ueb_hash;
  needed = c.needed;
  total = c.total;
  size = c.size;
})

abbrev pub verify_cap_text : VerifyCapValue → List ℕ
verify_cap_text c = codes "URI:CHK-Verifier:" ++ fields_text (record {
  first = c.storage_index;
  ueb_hash = c.ueb_hash;
  needed = c.needed;
  total = c.total;
  size = c.size;
})

abbrev pub lit_cap_text : List ℕ → List ℕ
lit_cap_text file = codes "URI:LIT:" ++ base32 file

abbrev pub cap_text : Cap → List ℕ
cap_text (Chk c) = read_cap_text c
cap_text (Verify c) = verify_cap_text c
cap_text (Lit file) = lit_cap_text file

-- such a cap may be
abbrev pub IsCap : Cap → Type 0
IsCap (Chk c) = IsReadCap c
IsCap (Verify c) = IsVerifyCap c
IsCap (Lit file) = IsLitCap file

-- the text is that of the cap
abbrev pub Spells : List ℕ → Cap → Type 0
Spells text cap = IsCap cap × (text ≡ cap_text cap)

-- the text does not begin as that of a cap
abbrev pub IsUnknownKind : List ℕ → Type 0
IsUnknownKind text = (kind : Kind) (rest : List ℕ) → ¬ (BeginsAs kind text rest)

-- there are not five parts after the beginning of a read cap or a verify cap
abbrev pub HasWrongParts : List ℕ → Type 0
HasWrongParts text = (rest : List ℕ) × Begins text rest × ¬ (HasFiveParts rest)

-- there are, and the first two are not the base32 text of 16 and of 32 bytes
abbrev pub HasBadParts : List ℕ → Type 0
HasBadParts text = (rest : List ℕ) × Begins text rest × (HasFiveParts rest × ¬ (HasBase32 rest))

-- what follows the beginning of a literal cap is no base32 text, and not too long
abbrev pub HasBadData : List ℕ → Type 0
HasBadData text = (rest : List ℕ) × BeginsAs Literal text rest
    × (length rest ≤ max_lit_letters × ((count : ℕ) → ¬ (IsBase32 count rest)))

abbrev pub HasBadBase32 : List ℕ → Type 0
HasBadBase32 text = HasBadParts text ⊎ HasBadData text

-- there are five parts, two of them base32, and the others are not all numbers
abbrev pub HasBadNumber : List ℕ → Type 0
HasBadNumber text = (rest : List ℕ) × Begins text rest
    × (HasFiveParts rest × HasBase32 rest × ¬ (HasNumbers rest))

-- they are numbers, but of no cap
abbrev pub HasBadParameters : List ℕ → Type 0
HasBadParameters text = (rest : List ℕ) × Begins text rest × (HasFiveParts rest × HasBase32 rest
    × ((needed total size : ℕ) × AreNumbers rest needed total size
    × ¬ (AreParameters needed total size)))

-- what follows the beginning of a literal cap is too long
abbrev pub IsLitTooLong : List ℕ → Type 0
IsLitTooLong text = (rest : List ℕ) × BeginsAs Literal text rest × (max_lit_letters < length rest)

-- the file that the letters of a literal cap spell, or their first fault
abbrev pub AnswersLit : List ℕ → Result LitCap CapError → Type 0
AnswersLit text (Ok file) = IsLitCap file × (text ≡ base32 file)
AnswersLit text (Err LitTooLong) = max_lit_letters < length text
AnswersLit text (Err BadBase32) =
    length text ≤ max_lit_letters × ((count : ℕ) → ¬ (IsBase32 count text))
AnswersLit text (Err UnknownKind) = ⊥
AnswersLit text (Err WrongParts) = ⊥
AnswersLit text (Err BadNumber) = ⊥
AnswersLit text (Err BadParameters) = ⊥
AnswersLit text (Err OutOfMemory) = ⊥

-- the cap that the text spells, or its first fault
abbrev pub Answers : List ℕ → Result Cap CapError → Type 0
Answers text (Ok cap) = Spells text cap
Answers text (Err UnknownKind) = IsUnknownKind text
Answers text (Err WrongParts) = HasWrongParts text
Answers text (Err BadBase32) = HasBadBase32 text
Answers text (Err BadNumber) = HasBadNumber text
Answers text (Err BadParameters) = HasBadParameters text
Answers text (Err LitTooLong) = IsLitTooLong text
Answers text (Err OutOfMemory) = ⊥

-- the caps of some fields, of which the first is a key, or a storage index
abbrev pub read_cap_of : Fields → ReadCapValue
read_cap_of f = read_cap_value f.first f.ueb_hash f.needed f.total f.size

abbrev pub verify_cap_from : Fields → VerifyCapValue
verify_cap_from f = verify_cap_value f.first f.ueb_hash f.needed f.total f.size
