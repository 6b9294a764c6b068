-- The five parts of a text.
use Rattle.std.proofs.Common.{◌≡◌, ℕ, ◌<◌, ◌^◌, List, [], ◌∷◌, length, get_or, refl, sym, ap, ◌∙◌, arith}
use Rattle.std.proofs.lemmas.List.Splits.{join_with_byte-slice_split}
use Rattle.std.specs.Fmt.{decimal}
use Rattle.std.specs.List.{join_with_byte}
use Rattle.cap_text.specs.declared.fields.Fields.{Fields}
use Rattle.cap_text.specs.Base32.{base32}
use Rattle.cap_text.specs.CapText.{parts, part, fields_text, IsBase32, AreNumbers, HasFiveParts, HasBase32, HasNumbers}
use Rattle.tagged_hash.specs.Decimal.{IsDecimal}
use Rattle.cap_text.proofs.Parts.{parts_some}

-- more than five are not five
pub six_parts : (text a b c d e rest : List ℕ) → parts text ≡ a ∷ b ∷ c ∷ d ∷ e ∷ parts rest → HasFiveParts text → ⊥
six_parts text a b c d e rest same five = omega (arith, sym five ∙ ap length same, parts_some rest)

pub part_at : (text a b c d e : List ℕ) → parts text ≡ a ∷ b ∷ c ∷ d ∷ e ∷ [] → (i : ℕ) → part text i ≡ get_or (a ∷ b ∷ c ∷ d ∷ e ∷ []) i []
part_at text a b c d e same i = ap (λ (ps : List (List ℕ)). get_or ps i []) same

-- the parts, joined
pub joined : (text a b c d e : List ℕ) → parts text ≡ a ∷ b ∷ c ∷ d ∷ e ∷ [] → text ≡ join_with_byte 58 (a ∷ b ∷ c ∷ d ∷ e ∷ [])
joined text a b c d e same = sym (join_with_byte-slice_split 58 text) ∙ ap (join_with_byte 58) same

-- the first two are base32
pub has_base32 : (text a b c d e : List ℕ) → parts text ≡ a ∷ b ∷ c ∷ d ∷ e ∷ [] → IsBase32 16 a → IsBase32 32 b → HasBase32 text
has_base32 text a b c d e same first second =
    ((first.0, first.1, part_at text a b c d e same 0 ∙ first.2), (second.0, second.1, part_at text a b c d e same 1 ∙ second.2))

pub no_base32 : (text a b c d e : List ℕ) → parts text ≡ a ∷ b ∷ c ∷ d ∷ e ∷ [] → (IsBase32 16 a → IsBase32 32 b → ⊥) → HasBase32 text → ⊥
no_base32 text a b c d e same none has =
    none (has.0.0, has.0.1, sym (part_at text a b c d e same 0) ∙ has.0.2) (has.1.0, has.1.1, sym (part_at text a b c d e same 1) ∙ has.1.2)

-- the others are numbers
pub no_numbers : (text a b c d e : List ℕ) → parts text ≡ a ∷ b ∷ c ∷ d ∷ e ∷ [] → (IsDecimal c → IsDecimal d → IsDecimal e → ⊥) → HasNumbers text → ⊥
no_numbers text a b c d e same none has =
    none (has.0.0, has.0.1, sym (part_at text a b c d e same 2) ∙ has.0.2) (has.1.0, has.1.1, sym (part_at text a b c d e same 3) ∙ has.1.2)
    (has.2.0, has.2.1, sym (part_at text a b c d e same 4) ∙ has.2.2)

-- the text of the fields
pub fields_join : (text a b c d e : List ℕ) (f : Fields) → parts text ≡ a ∷ b ∷ c ∷ d ∷ e ∷ [] → a ≡ base32 f.first → b ≡ base32 f.ueb_hash
    → c ≡ decimal f.needed → d ≡ decimal f.total → e ≡ decimal f.size → text ≡ fields_text f
fields_join text a b c d e f same first second third fourth fifth =
    joined text a b c d e same ∙ rw (first, second, third, fourth, fifth) refl

pub are_numbers : (text a b c d e : List ℕ) (needed total size : ℕ) → parts text ≡ a ∷ b ∷ c ∷ d ∷ e ∷ [] → needed < 2 ^ 64 → total < 2 ^ 64 → size < 2 ^ 64
    → c ≡ decimal needed → d ≡ decimal total → e ≡ decimal size → AreNumbers text needed total size
are_numbers text a b c d e needed total size same needed_fits total_fits size_fits third fourth fifth = record {
  needed_fits = needed_fits;
  total_fits = total_fits;
  size_fits = size_fits;
  needed_is = part_at text a b c d e same 2 ∙ third;
  total_is = part_at text a b c d e same 3 ∙ fourth;
  size_is = part_at text a b c d e same 4 ∙ fifth;
}
