-- Texts without some byte, and where they end.
use Rattle.std.proofs.Common.{add-zero, ◌≤◌, subst, Option, None, Some, MatchOption, Bool, true, false, eqb, inl, inr, ◌≡◌, ◌≢◌, ℕ, ◌+◌, ◌-◌, ◌<◌, List, [], ◌∷◌, ◌++◌, length, get_or, take, drop, refl, sym, ap, ◌∙◌, arith}
use Rattle.std.proofs.lemmas.List.{take-append-drop, drop_more, take_rest, length-take-le, get_or-take, get_or_default, get_or_append_left, get_or-append-add, get_or_past, take_at, drop_at}
use Rattle.std.proofs.lemmas.Bool.{eqb-true, eqb-false, ne_eqb, true≢false, cases_order}
use mathlib.Core.Bool.{not, beq}
use Rattle.std.proofs.lemmas.List.Elements.{recursion_from_All, All-from_recursion}
use Rattle.catalogues.specs.Pieces.{Lacks, IsDigit, AreDigits, Stops}

-- from the places of a text to the text
pub lacks_at : (byte : ℕ) (text : List ℕ) → ((k : ℕ) → k < length text → get_or text k 0 ≢ byte) → Lacks byte text
lacks_at byte text none =
    recursion_from_All (λ c. c ≢ byte) text (λ k d inside same. none k inside (get_or_default text k 0 d inside ∙ same))

-- the text before a place lacks what its places lack
pub lacks_before : (byte : ℕ) (text : List ℕ) (i : ℕ) → i < length text → ((k : ℕ) → k < i → get_or text k 0 ≢ byte) → Lacks byte (take i text)
lacks_before byte text i within none =
    let size : length (take i text) ≡ i = length-take-le i text (omega arith) in
    lacks_at byte (take i text) (λ k inside same. none k (omega (arith, size)) (sym (get_or-take i text k 0 (omega (arith, size))) ∙ same))

-- a text is what stands before a place, there and behind it
pub cut_at : (byte : ℕ) (text : List ℕ) (i : ℕ) → i < length text → get_or text i 0 ≡ byte
    → text ≡ take i text ++ byte ∷ take (length text - (i + 1)) (drop (i + 1) text)
cut_at byte text i within is =
    sym (take-append-drop i text)
    ∙ ap (λ (rest : List ℕ). take i text ++ rest) (drop_more text i 0 within)
    ∙ ap (λ (c : ℕ). take i text ++ c ∷ drop (i + 1) text) is
    ∙ ap (λ (rest : List ℕ). take i text ++ byte ∷ rest) (sym (take_rest text (i + 1)))

-- where a byte stands first is one place
pub one_cut : (byte : ℕ) (a x b y : List ℕ) → Lacks byte a → Lacks byte b → a ++ byte ∷ x ≡ b ++ byte ∷ y → (a ≡ b) × (x ≡ y)
one_cut byte [] x [] y p q same = (refl, cc)
one_cut byte [] x (c ∷ b) y p q same = let head : byte ≡ c = cc in absurd (q.0 (sym head))
one_cut byte (c ∷ a) x [] y p q same = let head : c ≡ byte = cc in absurd (p.0 head)
one_cut byte (c ∷ a) x (d ∷ b) y p q same =
    let head : c ≡ d = cc in
    let tail : a ++ byte ∷ x ≡ b ++ byte ∷ y = cc in
    let rest = one_cut byte a x b y p.1 q.1 tail in
    let first : a ≡ b = rest.0 in (cc, rest.1)

-- what lacks a byte is not cut there
pub not_cut : (byte : ℕ) (a x y : List ℕ) → Lacks byte y → y ≡ a ++ byte ∷ x → ⊥
not_cut byte [] x [] p same = cc
not_cut byte [] x (c ∷ y) p same = let head : c ≡ byte = cc in p.0 head
not_cut byte (d ∷ a) x [] p same = cc
not_cut byte (d ∷ a) x (c ∷ y) p same = let tail : y ≡ a ++ byte ∷ x = cc in not_cut byte a x y p.1 tail

-- both pieces lack it, and so does the whole
pub lacks_both : (byte : ℕ) (a b : List ℕ) → Lacks byte a → Lacks byte b → Lacks byte (a ++ b)
lacks_both byte [] b p q = q
lacks_both byte (c ∷ a) b p q = (p.0, lacks_both byte a b p.1 q)

-- what `is_empty` tells
pub is_some : (empty : Bool) (text : List ℕ) → empty ≡ eqb (length text) 0 → empty ≡ false → 0 < length text
is_some empty text is no_one =
    let apart : length text ≡ 0 → ⊥ = eqb-false (length text) 0 (sym is ∙ no_one) in
    omega (arith, apart)

pub is_nothing : (empty : Bool) (text : List ℕ) → empty ≡ eqb (length text) 0 → empty ≡ true → length text ≡ 0
is_nothing empty text is none = eqb-true (length text) 0 (sym is ∙ none)

pub some_is : (empty : Bool) (text : List ℕ) → empty ≡ eqb (length text) 0 → 0 < length text → empty ≡ false
some_is empty text is some = is ∙ ne_eqb (length text) 0 (λ none. omega arith)

-- two tests that are not told apart
pub same_test : (a b : Bool) → not (beq a b) ≡ false → a ≡ b
same_test true true p = refl
same_test false false p = refl
same_test true false p = absurd (true≢false p)
same_test false true p = absurd (true≢false p)

-- what follows from what is told of an option
pub match_weaker : {X : Type 0} (found : Option X) (P Q : Type 0) (F G : X → Type 0) → (P → Q) → ((x : X) → F x → G x) → MatchOption found P F → MatchOption found Q G
match_weaker None P Q F G none some h = none h
match_weaker (Some x) P Q F G none some h = some x h

-- the places of a run of digits
digit_inside : (digits rest : List ℕ) (k : ℕ) → AreDigits digits → k < length digits → IsDigit (get_or (digits ++ rest) k 0)
digit_inside digits rest k are inside =
    subst IsDigit (sym (get_or_append_left digits rest 0 k inside)) (All-from_recursion IsDigit digits are k 0 inside)

first_behind : (digits rest : List ℕ) → get_or (digits ++ rest) (length digits) 0 ≡ get_or rest 0 0
first_behind digits rest = ap (λ (k : ℕ). get_or (digits ++ rest) k 0) (sym (add-zero (length digits))) ∙ get_or-append-add digits rest 0 0

-- where the digits with which a text begins end
pub run_ends : (text digits rest : List ℕ) (i : ℕ) → ((k : ℕ) → k < i → IsDigit (get_or text k 0)) → (IsDigit (get_or text i 0) → ⊥)
    → AreDigits digits → Stops rest → text ≡ digits ++ rest → i ≡ length digits
run_ends text digits rest i before here are stops same = elim (cases_order i (length digits)) [
  | inl e ↦ e
  | inr (inl less) ↦ absurd (here (subst IsDigit (ap (λ (xs : List ℕ). get_or xs i 0) (sym same)) (digit_inside digits rest i are less)))
  | inr (inr more) ↦
      let digit = before (length digits) more in
      let at : get_or text (length digits) 0 ≡ get_or rest 0 0 = ap (λ (xs : List ℕ). get_or xs (length digits) 0) same ∙ first_behind digits rest in
      omega (arith, digit.0, at, stops)
]

pub run_parts : (text digits rest : List ℕ) (i : ℕ) → i ≡ length digits → text ≡ digits ++ rest → (take i text ≡ digits) × (drop i text ≡ rest)
run_parts text digits rest i e same = (
  ap (take i) same ∙ take_at digits rest i (sym e),
  ap (drop i) same ∙ drop_at digits rest i (sym e),
)

-- behind the end of a text there is no digit
pub no_digit_past : (text : List ℕ) (i : ℕ) → length text ≤ i → IsDigit (get_or text i 0) → ⊥
no_digit_past text i past digit = omega (arith, digit.0, get_or_past text i 0 past)
