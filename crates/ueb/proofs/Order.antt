-- `<` on texts.
use Rattle.std.proofs.Common.{◌≡◌, ℕ, Bool, true, List, ◌∷◌, refl, sym, subst, ◌∙◌}
use Rattle.std.specs.Prelude.{Some, IsTrue, ◌↔◌}
use Rattle.std.specs.Ordering.{MatchOrdering, nat_cmp, ordering_then, is_lt, is_some_and}
use Rattle.std.specs.Cmp.Lexicographic.{slice_cmp, slice_partial_cmp}
use Rattle.std.specs.declared.cmp.Ordering.{Ordering}
use Rattle.std.specs.declared.cmp.Ordering.TheVariants.{Less, Equal, Greater}
use Rattle.std.proofs.lemmas.Cmp.{same_from_slice_cmp_tested}
use Rattle.ueb.specs.Fields.{Precedes}

abbrev is_below : List ℕ → List ℕ → Bool
is_below a b = is_lt (slice_cmp nat_cmp a b)

by_order : (o t : Ordering) → MatchOrdering o (is_lt (ordering_then o t) ≡ is_lt Less) (is_lt (ordering_then o t) ≡ is_lt t) (is_lt (ordering_then o t) ≡ is_lt Greater)
by_order Less t = refl
by_order Equal t = refl
by_order Greater t = refl

more : (x y : ℕ) (xs ys : List ℕ) (o : Ordering) → o ≡ nat_cmp x y → MatchOrdering o (is_below (x ∷ xs) (y ∷ ys) ≡ is_lt Less) (is_below (x ∷ xs) (y ∷ ys) ≡ is_below xs ys) (is_below (x ∷ xs) (y ∷ ys) ≡ is_lt Greater)
more x y xs ys o e =
    let t : Ordering = slice_cmp nat_cmp xs ys in
    subst (λ (p : Ordering). MatchOrdering o (is_lt (ordering_then p t) ≡ is_lt Less) (is_lt (ordering_then p t) ≡ is_lt t) (is_lt (ordering_then p t) ≡ is_lt Greater)) e (by_order o t)

is_less : (o : Ordering) → is_lt o ≡ true → o ≡ Less
is_less Less e = refl
is_less Equal e = absurd (cc)
is_less Greater e = absurd (cc)

less_is : (o : Ordering) → o ≡ Less → is_lt o ≡ true
less_is Less e = refl
less_is Equal e = absurd (cc)
less_is Greater e = absurd (cc)

-- what `<` answers
pub precedes_tested : (a b : List ℕ) (r : Bool) → r ≡ is_some_and is_lt (slice_partial_cmp (λ x y. Some (nat_cmp x y)) a b) → IsTrue r ↔ Precedes a b
precedes_tested a b r h =
    let same = same_from_slice_cmp_tested nat_cmp is_lt is_below refl (λ y ys. refl) (λ x xs. refl) more a b r h in
    ((λ t. is_less _ (sym same ∙ t)), (λ p. same ∙ less_is _ p))
