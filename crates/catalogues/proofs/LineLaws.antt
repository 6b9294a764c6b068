-- The lines of a catalogue.
use Rattle.std.proofs.Common.{◌≡◌, ◌≢◌, ℕ, ◌+◌, ◌%◌, ◌^◌, ◌<◌, ◌≤◌, inl, inr, Bool, true, false, List, [], ◌∷◌, ◌++◌, map, sym, ap, ◌∙◌, arith, append_assoc, codes}
use Rattle.std.specs.Prelude.{slice_index}
use Rattle.std.specs.Fmt.{decimal}
use Rattle.std.specs.List.{AllByRecursion, list_any, flat_map}
use Rattle.std.proofs.lemmas.Bool.{cases_lt}
use Rattle.std.proofs.lemmas.Fmt.{decimal_by_steps}
use Rattle.cap_text.specs.declared.cap.Cap.{Cap}
use Rattle.cap_text.specs.declared.cap.Cap.TheVariants.{Chk, Verify, Lit}
use Rattle.cap_text.specs.Base32.{base32, bits, groups, letter}
use Rattle.cap_text.specs.Cap.{AreParameters}
use Rattle.cap_text.specs.CapText.{IsCap, cap_text}
use Rattle.cap_text.proofs.Groups.{letter-small, letter-large}
use Rattle.catalogues.specs.Names.{is_escaped, mark, written}
use Rattle.catalogues.specs.Lines.{IsWords, words_text}
use Rattle.catalogues.specs.Catalogues.{BeginsWithLine}
use Rattle.catalogues.specs.Pieces.{Lacks}
use Rattle.catalogues.proofs.NameLaws.{written_lacks_feed}
use Rattle.catalogues.proofs.PieceLaws.{one_cut, not_cut, lacks_both}

-- each byte of a text is above the blank
pub IsHigh : List ℕ → Type 0
IsHigh text = AllByRecursion (λ c. 33 ≤ c) text

pub high_both : (a b : List ℕ) → IsHigh a → IsHigh b → IsHigh (a ++ b)
unfolding IsHigh
high_both [] b p q = q
high_both (c ∷ a) b p q = (p.0, high_both a b p.1 q)

pub high_lacks : (byte : ℕ) (text : List ℕ) → byte < 33 → IsHigh text → Lacks byte text
unfolding IsHigh
high_lacks byte [] low p = tt
high_lacks byte (c ∷ text) low p = ((λ same. omega (arith, p.0, low, same)), high_lacks byte text low p.1)

-- a number's digits are
pub high_decimal : (n : ℕ) → n < 2 ^ 64 → IsHigh (decimal n)
unfolding IsHigh
high_decimal n fits = decimal_by_steps (λ m ds. IsHigh ds)
    (λ m small. (omega arith, tt))
    (λ m ds big front. high_both ds ((48 + m % 10) ∷ []) front (omega arith, tt))
    n fits

-- a letter is
high_letter : (n : ℕ) → 33 ≤ letter n
high_letter n = elim (cases_lt n 26) [
  | inl low ↦ omega (arith, letter-small n low)
  | inr high ↦ omega (arith, letter-large n high)
]

high_letters : (numbers : List ℕ) → IsHigh (map letter numbers)
unfolding IsHigh
high_letters [] = tt
high_letters (n ∷ numbers) = (high_letter n, high_letters numbers)

pub high_base32 : (bytes : List ℕ) → IsHigh (base32 bytes)
unfolding base32
high_base32 bytes = high_letters (groups (flat_map (bits 8) bytes))

-- the fields of a cap are
high_fields : (first hash : List ℕ) (needed total size : ℕ) → AreParameters needed total size
    → IsHigh (base32 first ++ 58 ∷ (base32 hash ++ 58 ∷ (decimal needed ++ 58 ∷ (decimal total ++ 58 ∷ decimal size))))
unfolding IsHigh
high_fields first hash needed total size p =
    high_both (base32 first) _ (high_base32 first) (
      omega arith,
      high_both (base32 hash) _ (high_base32 hash) (
        omega arith,
        high_both (decimal needed) _ (high_decimal needed (omega (arith, p.enough, p.shares))) (
          omega arith,
          high_both (decimal total) _ (high_decimal total (omega (arith, p.shares))) (
            omega arith,
            high_decimal size (omega (arith, p.most)),
          ),
        ),
      ),
    )

-- the text of a cap is
pub high_cap : (cap : Cap) → IsCap cap → IsHigh (cap_text cap)
unfolding IsHigh
high_cap (Chk c) p = high_both (codes "URI:CHK:") _
    (omega arith, (omega arith, (omega arith, (omega arith, (omega arith, (omega arith, (omega arith, (omega arith, tt))))))))
    (high_fields c.key c.ueb_hash c.needed c.total c.size p.parameters)
high_cap (Verify c) p = high_both (codes "URI:CHK-Verifier:") _ (
  omega arith,
  (
    omega arith,
    (
      omega arith,
      (
        omega arith,
        (
          omega arith,
          (
            omega arith,
            (
              omega arith,
              (
                omega arith,
                (omega arith, (omega arith, (omega arith, (omega arith, (omega arith, (omega arith, (omega arith, (omega arith, (omega arith, tt))))))))),
              ),
            ),
          ),
        ),
      ),
    ),
  ),
)
    (high_fields c.storage_index c.ueb_hash c.needed c.total c.size p.parameters)
high_cap (Lit file) p = high_both (codes "URI:LIT:") (base32 file)
    (omega arith, (omega arith, (omega arith, (omega arith, (omega arith, (omega arith, (omega arith, (omega arith, tt))))))))
    (high_base32 file)

-- it begins with a letter
pub begins_unmarked : (cap : Cap) (rest : List ℕ) → slice_index (cap_text cap ++ rest) 0 ≢ 92
begins_unmarked (Chk c) rest same = omega (arith, same)
begins_unmarked (Verify c) rest same = omega (arith, same)
begins_unmarked (Lit file) rest same = omega (arith, same)

-- what stands behind the mark of a line
unfoldable pub behind_mark : Cap → List ℕ → List ℕ
behind_mark cap name = cap_text cap ++ 32 ∷ 32 ∷ written name

pub words_is : (text : List ℕ) (cap : Cap) (name : List ℕ) → IsWords text cap name → text ≡ mark (list_any is_escaped name) ++ behind_mark cap name
unfolding behind_mark
words_is text cap name words = words.is

pub unmarked_first : (cap : Cap) (name : List ℕ) → slice_index (behind_mark cap name) 0 ≢ 92
unfolding behind_mark
unmarked_first cap name = begins_unmarked cap (32 ∷ 32 ∷ written name)

-- a cap is cut off
pub has_blank : (rest : List ℕ) (cap : Cap) (name : List ℕ) → rest ≡ behind_mark cap name → Lacks 32 rest → ⊥
unfolding behind_mark
has_blank rest cap name same lacks = not_cut 32 (cap_text cap) (32 ∷ written name) rest lacks same

pub cap_cut : (rest a x : List ℕ) (cap : Cap) (name : List ℕ) → IsCap cap → rest ≡ behind_mark cap name → Lacks 32 a → rest ≡ a ++ 32 ∷ x
    → (a ≡ cap_text cap) × (x ≡ 32 ∷ written name)
unfolding behind_mark
cap_cut rest a x cap name is same lacks cut =
    one_cut 32 a x (cap_text cap) (32 ∷ written name) lacks (high_lacks 32 (cap_text cap) (omega arith) (high_cap cap is)) (sym cut ∙ same)

-- no line feed stands in a line
pub words_lack_feed : (cap : Cap) (name : List ℕ) → IsCap cap → Lacks 10 (words_text cap name)
words_lack_feed cap name is =
    lacks_both 10 (mark (list_any is_escaped name)) _ (mark_lacks (list_any is_escaped name))
    (lacks_both 10 (cap_text cap) _ (high_lacks 10 (cap_text cap) (omega arith) (high_cap cap is))
    ((λ e. omega (arith, e)), ((λ e. omega (arith, e)), written_lacks_feed name)))
  where
    mark_lacks : (escaped : Bool) → Lacks 10 (mark escaped)
    mark_lacks true = ((λ e. omega (arith, e)), tt)
    mark_lacks false = tt

-- a line that is cut off
pub line_cut : (text words rest more : List ℕ) (cap : Cap) (name : List ℕ) → BeginsWithLine text cap name more → Lacks 10 words → text ≡ words ++ 10 ∷ rest
    → IsWords words cap name × (rest ≡ more)
line_cut text words rest more cap name begins lacks cut =
    let both = one_cut 10 words rest (words_text cap name) more lacks (words_lack_feed cap name begins.is_cap)
    (sym cut ∙ begins.is ∙ append_assoc (words_text cap name) (10 ∷ []) more) in
    (record { is_cap = begins.is_cap; is_name = begins.is_name; is = both.0 }, both.1)

-- a line that was read
pub line_read : (text words rest : List ℕ) (cap : Cap) (name : List ℕ) → IsWords words cap name → text ≡ words ++ 10 ∷ rest → BeginsWithLine text cap name rest
line_read text words rest cap name is cut = record {
  is_cap = is.is_cap;
  is_name = is.is_name;
  is = cut ∙ ap (λ (xs : List ℕ). xs ++ 10 ∷ rest) is.is ∙ sym (append_assoc (words_text cap name) (10 ∷ []) rest);
}
