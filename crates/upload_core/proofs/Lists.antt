-- Elements of lists, by their positions.
use Rattle.std.proofs.Common.{◌≡◌, Bool, true, false, ◌||◌, sym, true≢false, ℕ, zero, suc, ◌⊎◌, inl, inr, List, [], ◌∷◌, ◌++◌, All, Contains, Some, map, take, get_or, refl, ap, ◌∙◌, arith}
use Rattle.std.specs.Prelude.{slice_get}
use Rattle.std.specs.List.{flat_map, list_any}
use Rattle.std.proofs.lemmas.Bool.{or_left, or_right}
use Rattle.std.proofs.lemmas.List.Elements.{Contains-append_cases, Contains-append_left, Contains-append_right, Contains-get_or}
use Rattle.std.proofs.lemmas.Option.{get_or_from_slice_get, slice_get-get_or, slice_get_within}
use Rattle.placement.proofs.Members.{Contains-nil, Contains-uncons}
use Rattle.request_record.specs.declared.entries.Entry.{Entry}
use Rattle.request_record.specs.declared.requests.Request.{Request}

module _ {X : Type 0} where
  pub get_front : (xs ys : List X) (i : ℕ) (x : X) → slice_get xs i ≡ Some x → slice_get (xs ++ ys) i ≡ Some x
  get_front [] ys i x e = absurd cc
  get_front (z ∷ zs) ys zero x e = e
  get_front (z ∷ zs) ys (suc i) x e = get_front zs ys i x e

  -- an element of either list
  pub get_either : (xs ys : List X) (i : ℕ) (x : X) → slice_get (xs ++ ys) i ≡ Some x → (slice_get xs i ≡ Some x) ⊎ ((k : ℕ) × (slice_get ys k ≡ Some x))
  get_either [] ys i x e = inr (i, e)
  get_either (z ∷ zs) ys zero x e = inl e
  get_either (z ∷ zs) ys (suc i) x e = get_either zs ys i x e

  pub contains_at : (xs : List X) (i : ℕ) (x : X) → slice_get xs i ≡ Some x → Contains xs x
  contains_at xs i x e = (i, slice_get_within xs i x e, get_or_from_slice_get xs i x x e)

  pub position_of : (xs : List X) (x : X) → Contains xs x → (i : ℕ) × (slice_get xs i ≡ Some x)
  position_of xs x c = (c.0, slice_get-get_or xs c.0 x c.1 ∙ ap Some c.2)

  pub taken_from : (k : ℕ) (xs : List X) (x : X) → Contains (take k xs) x → Contains xs x
  taken_from zero xs x c = absurd (Contains-nil x c)
  taken_from (suc k) [] x c = absurd (Contains-nil x c)
  taken_from (suc k) (z ∷ zs) x c = elim (Contains-uncons z (take k zs) x c) [
    | inl same ↦ (0, omega arith, same)
    | inr more ↦ Contains-append_right (z ∷ []) zs x (taken_from k zs x more)
  ]

  pub all_of : (P : X → Type 0) (xs : List X) → ((x : X) → Contains xs x → P x) → All P xs
  all_of P xs each = λ k d lt. each (get_or xs k d) (Contains-get_or xs k d lt)

module _ {X Y : Type 0} where
  pub get_mapped : (f : X → Y) (xs : List X) (i : ℕ) (y : Y) → slice_get (map f xs) i ≡ Some y → (x : X) × (slice_get xs i ≡ Some x) × (f x ≡ y)
  get_mapped f [] i y e = absurd cc
  get_mapped f (x ∷ xs) zero y e = (x, refl, let is : f x ≡ y = cc in is)
  get_mapped f (x ∷ xs) (suc i) y e = get_mapped f xs i y e

  pub from_flat : (f : X → List Y) (xs : List X) (y : Y) → Contains (flat_map f xs) y → (x : X) × Contains xs x × Contains (f x) y
  from_flat f [] y c = absurd (Contains-nil y c)
  from_flat f (x ∷ xs) y c = elim (Contains-append_cases (f x) (flat_map f xs) y c) [
    | inl here ↦ (x, Contains-append_left (x ∷ []) xs x (0, omega arith, refl), here)
    | inr there ↦ (let r = from_flat f xs y there in (r.0, Contains-append_right (x ∷ []) xs r.0 r.1, r.2))
  ]

  pub to_flat : (f : X → List Y) (xs : List X) (x : X) (y : Y) → Contains xs x → Contains (f x) y → Contains (flat_map f xs) y
  to_flat f [] x y c d = absurd (Contains-nil x c)
  to_flat f (z ∷ zs) x y c d = elim (Contains-uncons z zs x c) [
    | inl same ↦ Contains-append_left (f z) (flat_map f zs) y (rw same d)
    | inr more ↦ Contains-append_right (f z) (flat_map f zs) y (to_flat f zs x y more d)
  ]

-- whether the request of an entry passes a test
pub any_entries : (test : Request → Bool) (es : List Entry) → list_any (λ (e : Entry). test e.request) es ≡ list_any test (map (λ (e : Entry). e.request) es)
any_entries test [] = refl
any_entries test (e ∷ es) = ap (λ (b : Bool). test e.request || b) (any_entries test es)

-- what passes a test, and that something does
pub any_of : {X : Type 0} (p : X → Bool) (xs : List X) (i : ℕ) (x : X) → slice_get xs i ≡ Some x → p x ≡ true → list_any p xs ≡ true
any_of p [] i x e h = absurd cc
any_of p (y ∷ ys) zero x e h = let same : y ≡ x = cc in or_left (p y) (list_any p ys) (ap p same ∙ h)
any_of p (y ∷ ys) (suc i) x e h = or_right (p y) (list_any p ys) (any_of p ys i x e h)

pub record Passes {X : Type 0} (p : X → Bool) (xs : List X) : Type 0 where
  pub position : ℕ
  pub item : X
  pub there : slice_get xs position ≡ Some item
  pub passes : p item ≡ true

pub passing : {X : Type 0} (p : X → Bool) (xs : List X) → list_any p xs ≡ true → Passes p xs
passing p [] h = absurd (true≢false (sym h))
passing {X} p (y ∷ ys) h = by (passing p ys) (p y) refl h
  where
    by : (list_any p ys ≡ true → Passes p ys) → (b : Bool) → p y ≡ b → (b || list_any p ys) ≡ true → Passes p (y ∷ ys)
    by rest true e k = record { position = 0; item = y; there = refl; passes = e }
    by rest false e k = let w = rest k in record { position = suc w.position; item = w.item; there = w.there; passes = w.passes }
