-- Names, and what is written for them.
use Rattle.std.proofs.Common.{◌≡◌, ℕ, ◌<◌, ◌⊎◌, inl, inr, true, false, List, [], ◌∷◌, ◌++◌, length, refl, sym, ap, subst, ◌∙◌, arith, eqb}
use Rattle.std.proofs.lemmas.Bool.{cases_eq, cases_order, cases_Bool, ne_eqb, eqb-false, or_parts, or_cases, both_ways, true≢false, false≢true}
use Rattle.std.proofs.lemmas.List.{append_assoc, append_cancel_left, append-nil, nil_from_length}
use Rattle.std.specs.List.{AllByRecursion, list_any}
use Rattle.catalogues.specs.Names.{IsName, is_escaped, written_byte, written}
use Rattle.catalogues.specs.Pieces.{Lacks}
use Rattle.catalogues.proofs.PieceLaws.{not_cut}
use Rattle.catalogues.specs.Unwritten.{unwritten_from, unwritten, IsWritten, BeginsWritten, IsWrittenName}

-- a byte that stands for itself
pub record IsPlain (c : ℕ) : Type 0 where
  pub backslash : eqb c 92 ≡ false
  pub feed : eqb c 10 ≡ false
  pub back : eqb c 13 ≡ false

-- the kinds of bytes
pub kinds : (c : ℕ) → (c ≡ 92) ⊎ ((c ≡ 10) ⊎ ((c ≡ 13) ⊎ IsPlain c))
kinds c = elim (cases_eq c 92) [
  | inl same ↦ inl same
  | inr first ↦ elim (cases_eq c 10) [
    | inl same ↦ inr (inl same)
    | inr second ↦ elim (cases_eq c 13) [
      | inl same ↦ inr (inr (inl same))
      | inr third ↦ inr (inr (inr (record { backslash = ne_eqb c 92 first; feed = ne_eqb c 10 second; back = ne_eqb c 13 third })))
    ]
  ]
]

-- it is written as it is
pub plain : (c : ℕ) → IsPlain c → written_byte c ≡ c ∷ []
plain c p = rw (p.backslash, p.feed, p.back) refl

-- what is written for a byte stands for it
pub unwritten_byte : (c : ℕ) (rest : List ℕ) → unwritten_from false (written_byte c ++ rest) ≡ c ∷ unwritten_from false rest
unwritten_byte c rest =
    let P : ℕ → Type 0 = λ d. unwritten_from false (written_byte d ++ rest) ≡ d ∷ unwritten_from false rest in
    elim (kinds c) [
      | inl same ↦ subst P (sym same) refl
      | inr (inl same) ↦ subst P (sym same) refl
      | inr (inr (inl same)) ↦ subst P (sym same) refl
      | inr (inr (inr p)) ↦ ap (λ (text : List ℕ). unwritten_from false (text ++ rest)) (plain c p) ∙ rw p.backslash refl
    ]

-- what is written for some bytes stands for them
pub unwritten_written : (bytes : List ℕ) → unwritten_from false (written bytes) ≡ bytes
unwritten_written [] = refl
unwritten_written (c ∷ bytes) = unwritten_byte c (written bytes) ∙ ap (λ (rest : List ℕ). c ∷ rest) (unwritten_written bytes)

-- a text begins with what is written for one byte
pub one_byte : (c d : ℕ) (x y : List ℕ) → written_byte c ++ x ≡ written_byte d ++ y → (c ≡ d) × (x ≡ y)
one_byte c d x y same =
    let both = sym (unwritten_byte c x) ∙ ap (unwritten_from false) same ∙ unwritten_byte d y in
    let head : c ≡ d = cc in
    (head, append_cancel_left (written_byte c) x y (same ∙ ap (λ (e : ℕ). written_byte e ++ y) (sym head)))

-- something is written for a byte
pub byte_some : (c : ℕ) (rest : List ℕ) → written_byte c ++ rest ≡ [] → ⊥
byte_some c rest none =
    let both = sym (unwritten_byte c rest) ∙ ap (unwritten_from false) none in cc

-- what follows is written for the other bytes
pub written_rest : (text rest : List ℕ) (c : ℕ) → text ≡ written_byte c ++ rest → IsWritten text → IsWritten rest
written_rest text rest c is ([], p, q) = absurd (byte_some c rest (sym is ∙ q))
written_rest text rest c is (d ∷ bytes, p, q) =
    (bytes, p.1, (one_byte c d rest (written bytes) (sym is ∙ q)).1)

pub written_more : (text rest : List ℕ) (c : ℕ) → 0 < c → text ≡ written_byte c ++ rest → IsWritten rest → IsWritten text
written_more text rest c some is p =
    (c ∷ p.0, (some, p.1), is ∙ ap (λ (xs : List ℕ). written_byte c ++ xs) p.2)

-- where nothing is written for a byte, nothing is for bytes
pub not_written : (text : List ℕ) → 0 < length text → ¬ (BeginsWritten text) → IsWritten text → ⊥
not_written text some none ([], p, q) = omega (arith, ap length q)
not_written text some none (c ∷ bytes, p, q) = none (c, (written bytes, p.0, q))

-- whether a byte is escaped, by its kind
pub plain_is_not : (c : ℕ) → IsPlain c → is_escaped c ≡ false
plain_is_not c p = rw (p.backslash, p.feed, p.back) refl

-- a name without an escaped byte is written without a backslash
pub lacks_backslash : (bytes : List ℕ) → list_any is_escaped bytes ≡ false → Lacks 92 (written bytes)
lacks_backslash [] none = tt
lacks_backslash (c ∷ bytes) none =
    let parts = or_parts (is_escaped c) (list_any is_escaped bytes) none in
    let P : ℕ → Type 0 = λ d. is_escaped d ≡ false → ⊥ in
    elim (kinds c) [
      | inl same ↦ absurd (subst P (sym same) (λ e. true≢false e) parts.0)
      | inr (inl same) ↦ absurd (subst P (sym same) (λ e. true≢false e) parts.0)
      | inr (inr (inl same)) ↦ absurd (subst P (sym same) (λ e. true≢false e) parts.0)
      | inr (inr (inr p)) ↦ subst (λ (text : List ℕ). Lacks 92 (text ++ written bytes)) (sym (plain c p))
          ((λ same. eqb-false c 92 p.backslash same), lacks_backslash bytes parts.1)
    ]

-- one with such a byte is written with one
pub has_backslash : (bytes : List ℕ) → list_any is_escaped bytes ≡ true → Lacks 92 (written bytes) → ⊥
has_backslash [] some lacks = false≢true some
has_backslash (c ∷ bytes) some lacks =
    let P : ℕ → Type 0 = λ d. Lacks 92 (written_byte d ++ written bytes) → ⊥ in
    elim (kinds c) [
      | inl same ↦ subst P (sym same) (λ l. l.0 refl) lacks
      | inr (inl same) ↦ subst P (sym same) (λ l. l.0 refl) lacks
      | inr (inr (inl same)) ↦ subst P (sym same) (λ l. l.0 refl) lacks
      | inr (inr (inr p)) ↦
          let rest : Lacks 92 (c ∷ written bytes) = subst (λ (text : List ℕ). Lacks 92 (text ++ written bytes)) (plain c p) lacks in
          elim (or_cases (is_escaped c) (list_any is_escaped bytes) some) [
            | inl here ↦ absurd (both_ways (is_escaped c) (plain_is_not c p) here)
            | inr more ↦ has_backslash bytes more rest.1
          ]
    ]

-- no line feed is written for a name
pub written_lacks_feed : (bytes : List ℕ) → Lacks 10 (written bytes)
written_lacks_feed [] = tt
written_lacks_feed (c ∷ bytes) =
    let rest = written_lacks_feed bytes in
    let P : ℕ → Type 0 = λ d. Lacks 10 (written_byte d ++ written bytes) in
    elim (kinds c) [
      | inl same ↦ subst P (sym same) ((λ e. omega arith), ((λ e. omega arith), rest))
      | inr (inl same) ↦ subst P (sym same) ((λ e. omega arith), ((λ e. omega arith), rest))
      | inr (inr (inl same)) ↦ subst P (sym same) ((λ e. omega arith), ((λ e. omega arith), rest))
      | inr (inr (inr p)) ↦ subst (λ (text : List ℕ). Lacks 10 (text ++ written bytes)) (sym (plain c p)) ((λ same. eqb-false c 10 p.feed same), rest)
    ]

-- what is written for a name stands for it
pub written_name : (text name : List ℕ) → IsName name → text ≡ written name → unwritten text ≡ name
unfolding unwritten
written_name text name is same = ap (unwritten_from false) same ∙ unwritten_written name

-- what is written for some bytes, and is not empty, is written for a name
pub is_written_name : (text : List ℕ) → 0 < length text → IsWritten text → IsWrittenName text
unfolding unwritten
is_written_name text some w =
    let again : unwritten_from false text ≡ w.0 = ap (unwritten_from false) w.2 ∙ unwritten_written w.0 in
    record {
      name = record {
        some = elim w.0 as (λ bytes. text ≡ written bytes → unwritten_from false text ≡ bytes → 0 < length (unwritten_from false text)) [
          | [] ↦ λ e f. absurd (omega (arith, some, ap length e))
          | (c ∷ bytes) ↦ λ e f. omega (arith, ap length f)
        ] w.2 again;
        no_nul = subst (AllByRecursion (λ c. 0 < c)) (sym again) w.1;
      };
      is = w.2 ∙ ap written (sym again);
    }

-- some bytes without a NUL are a name or none at all
pub no_nul_lacks : (name : List ℕ) → AllByRecursion (λ c. 0 < c) name → Lacks 0 name
no_nul_lacks [] p = tt
no_nul_lacks (c ∷ name) p = ((λ e. omega (arith, p.0, e)), no_nul_lacks name p.1)

pub lacks_no_nul : (name : List ℕ) → Lacks 0 name → AllByRecursion (λ c. 0 < c) name
lacks_no_nul [] p = tt
lacks_no_nul (c ∷ name) p = (
  elim (cases_order c 0) [
    | inl same ↦ absurd (p.0 same)
    | inr (inl less) ↦ omega arith
    | inr (inr more) ↦ more
  ],
  lacks_no_nul name p.1,
)

-- what a backslash in a written text tells of the name
pub with_backslash : (text a x name : List ℕ) → text ≡ a ++ 92 ∷ x → text ≡ written name → true ≡ list_any is_escaped name
with_backslash text a x name is same = elim (cases_Bool (list_any is_escaped name)) [
  | inl here ↦ sym here
  | inr none ↦ absurd (not_cut 92 a x (written name) (lacks_backslash name none) (sym same ∙ is))
]

pub without_backslash : (text name : List ℕ) → Lacks 92 text → text ≡ written name → false ≡ list_any is_escaped name
without_backslash text name lacks same = elim (cases_Bool (list_any is_escaped name)) [
  | inl here ↦ absurd (has_backslash name here (subst (Lacks 92) same lacks))
  | inr none ↦ sym none
]

-- what is written for a name is some bytes
pub written_some : (text name : List ℕ) → IsName name → text ≡ written name → length text ≡ 0 → ⊥
written_some text [] is same none = omega (arith, is.some)
written_some text (c ∷ name) is same none =
    byte_some c (written name) (sym same ∙ nil_from_length text none)

-- the next byte of what is left
pub next_byte : (all front text rest : List ℕ) (c : ℕ) → text ≡ written_byte c ++ rest
    → front ++ unwritten_from false text ≡ all → (front ++ c ∷ []) ++ unwritten_from false rest ≡ all
next_byte all front text rest c is same =
    append_assoc front (c ∷ []) (unwritten_from false rest)
    ∙ ap (λ (xs : List ℕ). front ++ xs) (sym (ap (unwritten_from false) is ∙ unwritten_byte c rest))
    ∙ same

-- nothing is left
pub no_byte : (all front text : List ℕ) → ¬ (BeginsWritten text) → IsWritten text
    → front ++ unwritten_from false text ≡ all → front ≡ all
no_byte all front text none ([], p, q) same = sym (append-nil front) ∙ ap (λ (xs : List ℕ). front ++ unwritten_from false xs) (sym q) ∙ same
no_byte all front text none (c ∷ bytes, p, q) same = absurd (none (c, (written bytes, p.0, q)))

-- what is written for a name is written for bytes
pub name_is_bytes : (text : List ℕ) → IsWrittenName text → IsWritten text
name_is_bytes text is = (unwritten text, is.name.no_nul, is.is)
