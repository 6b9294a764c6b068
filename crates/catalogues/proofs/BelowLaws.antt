-- Names below a folder.
use Rattle.std.proofs.Common.{◌≡◌, ◌≢◌, ℕ, inl, inr, false, List, [], ◌∷◌, ◌++◌, refl, sym, ap, subst, ◌∙◌, arith, eqb, append_assoc, append-nil, codes}
use Rattle.std.specs.Prelude.{slice_index}
use Rattle.std.specs.List.{All, AllByRecursion, flat_map}
use Rattle.std.proofs.lemmas.Bool.{ne_eqb}
use Rattle.std.proofs.lemmas.List.Concat.{flat_map-append}
use Rattle.std.proofs.lemmas.List.Elements.{All-from_recursion, All-weaker}
use Rattle.std.proofs.lemmas.List.Splits.{slice_split_none, slice_split_at}
use Rattle.catalogues.specs.Below.{IsPart, IsBelow, IsLeading, IsLeadingPiece, IsBelowBehind, parts_of}
use Rattle.catalogues.specs.Pieces.{Lacks}

-- no slash passes the test for one
no_slash : (part : List ℕ) → Lacks 47 part → All (λ c. eqb c 47 ≡ false) part
no_slash part lacks =
    All-weaker (λ c. c ≢ 47) (λ c. eqb c 47 ≡ false) (λ c apart. ne_eqb c 47 apart) part (All-from_recursion (λ c. c ≢ 47) part lacks)

-- a text without a slash is one part
pub one_part : (part : List ℕ) → Lacks 47 part → parts_of part ≡ part ∷ []
one_part part lacks = slice_split_none (λ c. eqb c 47) part (no_slash part lacks)

-- the first part, and the others
pub first_part : (text part rest : List ℕ) → Lacks 47 part → text ≡ part ++ 47 ∷ rest → parts_of text ≡ part ∷ parts_of rest
first_part text part rest lacks is = ap parts_of is ∙ slice_split_at (λ c. eqb c 47) part 47 rest (no_slash part lacks) refl

-- a name goes on below a folder
pub below_rest : (text part rest : List ℕ) → Lacks 47 part → text ≡ part ++ 47 ∷ rest → IsBelow text → IsPart part × IsBelow rest
below_rest text part rest lacks is below = subst (AllByRecursion IsPart) (first_part text part rest lacks is) below

pub below_more : (text part rest : List ℕ) → Lacks 47 part → text ≡ part ++ 47 ∷ rest → IsPart part → IsBelow rest → IsBelow text
below_more text part rest lacks is first more = subst (AllByRecursion IsPart) (sym (first_part text part rest lacks is)) (first, more)

pub below_one : (part : List ℕ) → Lacks 47 part → IsPart part → IsBelow part
below_one part lacks is = subst (AllByRecursion IsPart) (sym (one_part part lacks)) (is, tt)

pub one_below : (part : List ℕ) → Lacks 47 part → IsBelow part → IsPart part
one_below part lacks below = (subst (AllByRecursion IsPart) (one_part part lacks) below).0

-- a name below a folder begins with no slash, and with no dot before one
no_front : (piece rest : List ℕ) → IsLeadingPiece piece → IsBelow (piece ++ rest) → ⊥
no_front piece rest (inl slash) below =
    let P : List ℕ → Type 0 = λ p. IsBelow (p ++ rest) in
    let first : IsPart [] = (subst P slash below).0 in omega (arith, first.some)
no_front piece rest (inr dot) below =
    let P : List ℕ → Type 0 = λ p. IsBelow (p ++ rest) in
    let first : IsPart (codes ".") = (subst P dot below).0 in first.not_dot refl

pub no_piece : (name piece rest : List ℕ) → IsLeadingPiece piece → name ≡ piece ++ rest → IsBelow name → ⊥
no_piece name piece rest leading is below = no_front piece rest leading (subst IsBelow is below)

-- a front with one piece more
pub one_more : (name front piece text rest : List ℕ) → IsLeading front → name ≡ front ++ text → IsLeadingPiece piece → text ≡ piece ++ rest
    → (longer : List ℕ) × (IsLeading longer × (name ≡ longer ++ rest))
one_more name front piece text rest leading is more same = (
  front ++ piece,
  (
    (
      leading.0 ++ piece ∷ [],
      all_push leading.0 leading.1,
      ap (λ (xs : List ℕ). xs ++ piece) leading.2
          ∙ ap (λ (xs : List ℕ). flat_map (λ p. p) leading.0 ++ xs) (sym (append-nil piece))
          ∙ sym (flat_map-append (λ p. p) leading.0 (piece ∷ [])),
    ),
    is ∙ ap (λ (xs : List ℕ). front ++ xs) same ∙ sym (append_assoc front piece rest),
  ),
)
  where
    all_push : (pieces : List (List ℕ)) → AllByRecursion IsLeadingPiece pieces → AllByRecursion IsLeadingPiece (pieces ++ piece ∷ [])
    all_push [] all = (more, tt)
    all_push (p ∷ pieces) all = (all.0, all_push pieces all.1)

-- two pieces with which a name begins are one
one_piece : (a b x y : List ℕ) → IsLeadingPiece a → IsLeadingPiece b → a ++ x ≡ b ++ y → x ≡ y
one_piece a b x y (inl p) (inl q) same =
    let both : 47 ∷ x ≡ 47 ∷ y = ap (λ (xs : List ℕ). xs ++ x) (sym p) ∙ same ∙ ap (λ (xs : List ℕ). xs ++ y) q in cc
one_piece a b x y (inl p) (inr q) same =
    let both : 47 ∷ x ≡ 46 ∷ 47 ∷ y = ap (λ (xs : List ℕ). xs ++ x) (sym p) ∙ same ∙ ap (λ (xs : List ℕ). xs ++ y) q in
    let head : 47 ≡ 46 = ap (λ (xs : List ℕ). slice_index xs 0) both in absurd (omega (arith, head))
one_piece a b x y (inr p) (inl q) same =
    let both : 46 ∷ 47 ∷ x ≡ 47 ∷ y = ap (λ (xs : List ℕ). xs ++ x) (sym p) ∙ same ∙ ap (λ (xs : List ℕ). xs ++ y) q in
    let head : 46 ≡ 47 = ap (λ (xs : List ℕ). slice_index xs 0) both in absurd (omega (arith, head))
one_piece a b x y (inr p) (inr q) same =
    let both : 46 ∷ 47 ∷ x ≡ 46 ∷ 47 ∷ y = ap (λ (xs : List ℕ). xs ++ x) (sym p) ∙ same ∙ ap (λ (xs : List ℕ). xs ++ y) q in cc

-- what is left behind one piece of a front
pub one_less : (text piece after front rest : List ℕ) → IsLeadingPiece piece → text ≡ piece ++ after → IsBelowBehind text front rest
    → (left : List ℕ) × IsBelowBehind after left rest
one_less text piece after front rest leading is behind = go behind.leading.0 behind.leading.1 behind.leading.2
  where
    go : (pieces : List (List ℕ)) → AllByRecursion IsLeadingPiece pieces → front ≡ flat_map (λ p. p) pieces → (left : List ℕ) × IsBelowBehind after left rest
    go [] all none =
        absurd (no_piece rest piece after leading (sym (behind.is ∙ ap (λ (xs : List ℕ). xs ++ rest) none) ∙ is) behind.below)
    go (p ∷ pieces) all some =
        let whole : piece ++ after ≡ p ++ (flat_map (λ q. q) pieces ++ rest) =
        sym is ∙ behind.is ∙ ap (λ (xs : List ℕ). xs ++ rest) some ∙ append_assoc p (flat_map (λ q. q) pieces) rest in (
          flat_map (λ q. q) pieces,
          record {
            is = one_piece piece p after (flat_map (λ q. q) pieces ++ rest) leading all.0 whole;
            leading = (pieces, all.1, refl);
            below = behind.below;
          },
        )

-- no piece is left
pub all_left : (text front rest : List ℕ) → ((piece after : List ℕ) → IsLeadingPiece piece → text ≢ piece ++ after) → IsBelowBehind text front rest → text ≡ rest
all_left text front rest none behind = go behind.leading.0 behind.leading.1 behind.leading.2
  where
    go : (pieces : List (List ℕ)) → AllByRecursion IsLeadingPiece pieces → front ≡ flat_map (λ p. p) pieces → text ≡ rest
    go [] all empty = behind.is ∙ ap (λ (xs : List ℕ). xs ++ rest) empty
    go (p ∷ pieces) all some = absurd (none p (flat_map (λ q. q) pieces ++ rest) all.0
        (behind.is ∙ ap (λ (xs : List ℕ). xs ++ rest) some ∙ append_assoc p (flat_map (λ q. q) pieces) rest))
