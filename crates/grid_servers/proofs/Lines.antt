-- Texts of one line.
use Rattle.std.proofs.Common.{◌≡◌, ◌≢◌, ℕ, suc, ◌+◌, ◌<◌, ◌⊎◌, List, [], ◌∷◌, ◌++◌, Contains, Option, Some, None, IfNone, length, get_or, refl, sym, ap, subst, ◌∙◌, inl, inr, arith}
use Rattle.std.proofs.lemmas.List.{append_cancel_right, get_or_append_left, get_or_default, get_or_push, length_push, length-append, nil_from_length}
use Rattle.connections.specs.Addresses.{IsAddressText, IsNoAddress}
use Rattle.connections.specs.declared.address.Address.{Address}
use Rattle.grid_servers.specs.Sites.{IsLineOf, IsOnlyLine}

-- a line that ends with a line feed is none
ends : (line other : List ℕ) → ¬ Contains line 10 → line ≡ other ++ (10 ∷ []) → ⊥
ends line other one e = one (
  length other,
  omega (arith, ap length e, length_push other 10),
  ap (λ l. get_or l (length other) 10) e ∙ get_or_push other 10 10 (length other) refl,
)

-- the only line of a text is one
pub only_one : (text line other : List ℕ) → IsOnlyLine text line → IsOnlyLine text other → other ≡ line
only_one text line other a b = by a.whole b.whole where
  by : (text ≡ line) ⊎ (text ≡ line ++ (10 ∷ [])) → (text ≡ other) ⊎ (text ≡ other ++ (10 ∷ [])) → other ≡ line
  by (inl e) (inl f) = sym f ∙ e
  by (inl e) (inr f) = absurd (ends line other a.one (sym e ∙ f))
  by (inr e) (inl f) = absurd (ends other line b.one (sym f ∙ e))
  by (inr e) (inr f) = append_cancel_right other line (10 ∷ []) (sym f ∙ e)

-- A text with a line feed in its midst has more lines than one.
pub more_lines : (text line rest other : List ℕ) → text ≡ line ++ (10 ∷ rest) → 0 < length rest → IsOnlyLine text other → ⊥
more_lines text line rest other e more is = by is.whole where
  seam : (xs : List ℕ) → get_or (xs ++ (10 ∷ rest)) (length xs) 10 ≡ 10
  seam [] = refl
  seam (x ∷ xs) = seam xs

  at : get_or text (length line) 10 ≡ 10
  at = ap (λ l. get_or l (length line) 10) e ∙ seam line

  long : length text ≡ length line + suc (length rest)
  long = ap length e ∙ length-append line (10 ∷ rest)

  by : (text ≡ other) ⊎ (text ≡ other ++ (10 ∷ [])) → ⊥
  by (inl f) = is.one (length line, omega (arith, long, ap length f), ap (λ l. get_or l (length line) 10) (sym f) ∙ at)
  by (inr f) =
      let within : length line < length other = omega (arith, long, more, ap length f, length_push other 10) in
      is.one (length line, within, sym (get_or_append_left other (10 ∷ []) 10 (length line) within) ∙ ap (λ l. get_or l (length line) 10) (sym f) ∙ at)

-- no byte of a text is a line feed where none is at any place
pub none_at : (text : List ℕ) → ((k : ℕ) → k < length text → get_or text k 0 ≢ 10) → ¬ Contains text 10
none_at text none (k, within, is) = none k within (get_or_default text k 0 10 within ∙ is)

-- a text without a line feed
pub all_line : (text : List ℕ) → ((k : ℕ) → k < length text → get_or text k 0 ≢ 10) → IsOnlyLine text text
all_line text none = record { one = none_at text none; whole = inl refl }

-- a text with a line feed at its end alone
pub first_line : (text line rest : List ℕ) → text ≡ line ++ (10 ∷ rest) → ((k : ℕ) → k < length line → get_or line k 0 ≢ 10) → length rest ≡ 0 → IsOnlyLine text line
first_line text line rest e none empty = record { one = none_at line none; whole = inr (e ∙ ap (λ (l : List ℕ). line ++ (10 ∷ l)) (nil_from_length rest empty)) }

-- ---- addresses

pub if_none : {X P Q : Type 0} (o : Option X) → (P → Q) → IfNone o P → IfNone o Q
if_none None f p = f p
if_none (Some x) f p = tt

-- where the only line writes no address the text writes none
pub line_writes_none : (text line : List ℕ) → IsOnlyLine text line → IsNoAddress line → (address : Address) → ¬ IsLineOf text address
line_writes_none text line only none address is =
    none address (subst (λ (l : List ℕ). IsAddressText l address) (only_one text line is.line only is.only) is.writes)

-- nor does a text with more lines
pub no_line_writes_none : (text : List ℕ) → ((line : List ℕ) → ¬ IsOnlyLine text line) → (address : Address) → ¬ IsLineOf text address
no_line_writes_none text none address is = none is.line is.only
