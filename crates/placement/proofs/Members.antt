-- What a list contains, after `map` and `filter`.
use Rattle.std.proofs.Common.{◌≡◌, ℕ, Bool, false, true, cond, not, ◌||◌, ◌⊎◌, inl, inr, List, [], ◌∷◌, ◌++◌, Contains, map, filter, eqb, refl, sym, ap, subst, ◌∙◌, true≢false, arith, ◌&&◌}
use Rattle.std.proofs.lemmas.Bool.{eqb-true}
use Rattle.std.proofs.lemmas.List.{map-append}
use Rattle.std.proofs.lemmas.List.Folds.{list_any-append}
use Rattle.std.proofs.lemmas.List.Elements.{Contains-append_cases, Contains-append_right, Contains-append_left, Contains-push, Contains-push_cases}
use Rattle.std.proofs.lemmas.Map.Views.{list_any-from_Contains}
use Rattle.std.specs.Cmp.{nat_eq_equiv}
use Rattle.std.specs.List.{IsDistinct, AllByRecursion, list_any, list_all}
use Rattle.std.specs.Set.{is_member}
use Rattle.placement.specs.Matching.{Pair, shares_of}
use Rattle.placement.specs.Plan.{untaken}

module _ {X : Type 0} where
  pub Contains-nil : (x : X) → Contains [] x → ⊥
  Contains-nil x h = omega (arith, h.1)

  pub Contains-head : (x : X) (xs : List X) → Contains (x ∷ xs) x
  Contains-head x xs = Contains-append_left (x ∷ []) xs x (Contains-push [] x)

  pub Contains-cons : (x : X) (xs : List X) (q : X) → Contains xs q → Contains (x ∷ xs) q
  Contains-cons x xs q h = Contains-append_right (x ∷ []) xs q h

  pub Contains-uncons : (x : X) (xs : List X) (q : X) → Contains (x ∷ xs) q → (x ≡ q) ⊎ Contains xs q
  Contains-uncons x xs q h =
      elim (Contains-append_cases (x ∷ []) xs q h) [
        | inl one ↦ (elim (Contains-push_cases [] x q one) [ inl none ↦ absurd (Contains-nil q none) | inr e ↦ inl e ])
        | inr rest ↦ inr rest
      ]

module _ {X : Type 0} where
  pub Contains-filter : (p : X → Bool) (xs : List X) (q : X) → Contains xs q → p q ≡ true → Contains (filter p xs) q
  Contains-filter p [] q h e = absurd (Contains-nil q h)
  Contains-filter p (x ∷ xs) q h e = by (p x) refl (Contains-uncons x xs q h) (λ r. Contains-filter p xs q r e)
    where
      by : (b : Bool) → p x ≡ b → (x ≡ q) ⊎ Contains xs q → (Contains xs q → Contains (filter p xs) q) → Contains (cond b (x ∷ filter p xs) (filter p xs)) q
      by true t (inl s) r = subst (Contains (x ∷ filter p xs)) s (Contains-head x (filter p xs))
      by true t (inr s) r = Contains-cons x (filter p xs) q (r s)
      by false t (inl s) r = absurd (true≢false (sym e ∙ sym (ap p s) ∙ t))
      by false t (inr s) r = r s

  pub from_filter : (p : X → Bool) (xs : List X) (q : X) → Contains (filter p xs) q → Contains xs q × (p q ≡ true)
  from_filter p [] q h = absurd (Contains-nil q h)
  from_filter p (x ∷ xs) q h = by (p x) refl h (from_filter p xs q)
    where
      by : (b : Bool) → p x ≡ b → Contains (cond b (x ∷ filter p xs) (filter p xs)) q → (Contains (filter p xs) q → Contains xs q × (p q ≡ true)) → Contains (x ∷ xs) q × (p q ≡ true)
      by true t h r =
          elim (Contains-uncons x (filter p xs) q h) [
            | inl e ↦ (subst (Contains (x ∷ xs)) e (Contains-head x xs), sym (ap p e) ∙ t)
            | inr m ↦ (let f = r m in (Contains-cons x xs q f.0, f.1))
          ]
      by false t h r = let f = r h in (Contains-cons x xs q f.0, f.1)

  pub list_all-from_Contains : (p : X → Bool) (xs : List X) → ((q : X) → Contains xs q → p q ≡ true) → list_all p xs ≡ true
  list_all-from_Contains p [] h = refl
  list_all-from_Contains p (x ∷ xs) h =
      ap (λ b. b && list_all p xs) (h x (Contains-head x xs)) ∙ list_all-from_Contains p xs (λ q m. h q (Contains-cons x xs q m))

  pub from_list_all : (p : X → Bool) (xs : List X) → list_all p xs ≡ true → (q : X) → Contains xs q → p q ≡ true
  from_list_all p [] h q m = absurd (Contains-nil q m)
  from_list_all p (x ∷ xs) h q m = by (p x) refl (Contains-uncons x xs q m) (λ r. from_list_all p xs r q)
    where
      by : (b : Bool) → p x ≡ b → (x ≡ q) ⊎ Contains xs q → (list_all p xs ≡ true → Contains xs q → p q ≡ true) → p q ≡ true
      by true t (inl s) r = sym (ap p s) ∙ t
      by true t (inr s) r = r (sym (ap (λ b. b && list_all p xs) t) ∙ h) s
      by false t s r = absurd (true≢false (sym h ∙ ap (λ b. b && list_all p xs) t))

  module _ (f : X → ℕ) where
    pub member_map : (xs : List X) (q : X) → Contains xs q → is_member eqb (map f xs) (f q) ≡ true
    member_map xs q h = list_any-from_Contains nat_eq_equiv (f q) (map f xs) (mapped xs h)
      where
        mapped : (ys : List X) → Contains ys q → Contains (map f ys) (f q)
        mapped [] h = absurd (Contains-nil q h)
        mapped (y ∷ ys) h =
            elim (Contains-uncons y ys q h) [
              | inl e ↦ subst (Contains (f y ∷ map f ys)) (ap f e) (Contains-head (f y) (map f ys))
              | inr m ↦ Contains-cons (f y) (map f ys) (f q) (mapped ys m)
            ]

    pub from_member_map : (xs : List X) (n : ℕ) → is_member eqb (map f xs) n ≡ true → (q : X) × Contains xs q × (f q ≡ n)
    from_member_map [] n h = absurd (true≢false (sym h))
    from_member_map (x ∷ xs) n h = by (eqb n (f x)) refl (from_member_map xs n)
      where
        by : (b : Bool) → eqb n (f x) ≡ b → (is_member eqb (map f xs) n ≡ true → (q : X) × Contains xs q × (f q ≡ n)) → (q : X) × Contains (x ∷ xs) q × (f q ≡ n)
        by true t r = (x, Contains-head x xs, sym (eqb-true n (f x) t))
        by false t r = let y = r (sym (ap (λ b. b || is_member eqb (map f xs) n) t) ∙ h) in (y.0, Contains-cons x xs y.0 y.1, y.2)

    each_filter : (P : ℕ → Type 0) (p : X → Bool) (xs : List X) → AllByRecursion P (map f xs) → AllByRecursion P (map f (filter p xs))
    each_filter P p [] all = tt
    each_filter P p (x ∷ xs) all = by (p x) (each_filter P p xs all.1)
      where
        by : (b : Bool) → AllByRecursion P (map f (filter p xs)) → AllByRecursion P (map f (cond b (x ∷ filter p xs) (filter p xs)))
        by true r = (all.0, r)
        by false r = r

    pub distinct_filter : (p : X → Bool) (xs : List X) → IsDistinct eqb (map f xs) → IsDistinct eqb (map f (filter p xs))
    unfolding IsDistinct
    distinct_filter p [] d = tt
    distinct_filter p (x ∷ xs) d = by (p x) (distinct_filter p xs d.1)
      where
        by : (b : Bool) → IsDistinct eqb (map f (filter p xs)) → IsDistinct eqb (map f (cond b (x ∷ filter p xs) (filter p xs)))
        by true r = (each_filter (λ y. eqb (f x) y ≡ false) p xs d.0, r)
        by false r = r

    -- the test of `any` at a chain over the elements
    pub any-map : (xs : List X) (n : ℕ) → list_any (λ x. eqb (f x) n) xs ≡ is_member eqb (map f xs) n
    any-map [] n = refl
    any-map (x ∷ xs) n = λ j. nat_eq_equiv.symm (f x) n j || any-map xs n j

    pub any-map_filter : (p : X → Bool) (xs : List X) (n : ℕ) → list_any (λ x. eqb (f x) n && p x) xs ≡ is_member eqb (map f (filter p xs)) n
    any-map_filter p [] n = refl
    any-map_filter p (x ∷ xs) n = by (p x) (eqb (f x) n) (nat_eq_equiv.symm n (f x)) (any-map_filter p xs n)
      where
        by : (b c : Bool) → eqb n (f x) ≡ c → list_any (λ x. eqb (f x) n && p x) xs ≡ is_member eqb (map f (filter p xs)) n → ((c && b) || list_any (λ x. eqb (f x) n && p x) xs) ≡ is_member eqb (map f (cond b (x ∷ filter p xs) (filter p xs))) n
        by true true e r = sym (ap (λ v. v || is_member eqb (map f (filter p xs)) n) e)
        by true false e r = r ∙ sym (ap (λ v. v || is_member eqb (map f (filter p xs)) n) e)
        by false true e r = r
        by false false e r = r

-- ---- shares that are left over

member-append : (taken more : List Pair) (h : ℕ) → is_member eqb (shares_of (taken ++ more)) h ≡ (is_member eqb (shares_of taken) h || is_member eqb (shares_of more) h)
member-append taken more h = ap (λ l. is_member eqb l h) (map-append (λ (p : Pair). p.1) taken more) ∙ list_any-append (eqb h) (shares_of taken) (shares_of more)

-- one list of pairs after the other
pub untaken-append : (taken more : List Pair) (shares : List ℕ) → untaken (taken ++ more) shares ≡ untaken more (untaken taken shares)
untaken-append taken more [] = refl
untaken-append taken more (h ∷ hs) =
    ap (λ v. cond (not v) (h ∷ untaken (taken ++ more) hs) (untaken (taken ++ more) hs)) (member-append taken more h)
    ∙ by (is_member eqb (shares_of taken) h) (is_member eqb (shares_of more) h) refl (untaken-append taken more hs)
  where
    by : (x y : Bool) → is_member eqb (shares_of more) h ≡ y → untaken (taken ++ more) hs ≡ untaken more (untaken taken hs)
        → cond (not (x || y)) (h ∷ untaken (taken ++ more) hs) (untaken (taken ++ more) hs) ≡ untaken more (cond (not x) (h ∷ untaken taken hs) (untaken taken hs))
    by true y e rest = rest
    by false true e rest = rest ∙ sym (ap (λ v. cond (not v) (h ∷ untaken more (untaken taken hs)) (untaken more (untaken taken hs))) e)
    by false false e rest = ap (λ l. h ∷ l) rest ∙ sym (ap (λ v. cond (not v) (h ∷ untaken more (untaken taken hs)) (untaken more (untaken taken hs))) e)
