-- What holds of a table after each change.
use Rattle.std.proofs.Common.{◌≡◌, ℕ, ◌+◌, ◌<◌, ◌≤◌, ◌⊎◌, inl, inr, Bool, true, false, cond, List, [], ◌∷◌, ◌++◌, All, Contains, length, take, Option, Some, None, IfSome, refl, sym, ap, subst, ◌∙◌, arith, true≢false}
use mir.Val.{bool_byte}
use Rattle.std.specs.Prelude.{◌==◌, slice_get, slice_index_or, slice_set, is_some}
use Rattle.std.proofs.lemmas.Bool.{cases_eq, cases_lt, eq-eqb}
use Rattle.std.proofs.lemmas.List.{length-append, length-set, take_more}
use Rattle.std.proofs.lemmas.List.Elements.{All-head, All-tail, Contains-append_left, Contains-push, Contains-push_cases}
use Rattle.std.proofs.lemmas.List.Sums.{sum_by-cons, sum_by-set}
use Rattle.std.proofs.lemmas.Option.{get_or_from_slice_get, slice_get-get_or, slice_get_within}
use Rattle.lemmas.proofs.Positions.{got, get_set, get_other, set_cases, get_push, get_last}
use Rattle.download_shares.specs.Choice.{Chooses, NoneIsFreeBefore}
use Rattle.download_shares.specs.Numbers.{is_at, no_holding, read_count, released, taken_up, with_position, without_position}
use Rattle.download_shares.specs.HoldingState.{NumberState, TableState}
use Rattle.download_shares.specs.Table.{IsFree, IsHolding, IsNumber, ChangesNumber, IsTable, Releases, Retires, Suspends, TakesUp, told_one}
use Rattle.download_shares.specs.declared.holding.Holding.{Holding}
use Rattle.download_shares.proofs.Lists.{from_without, without_keeps}

-- the one that is read is no other than this, if this is it
at_is : (position : ℕ) (reading : Option ℕ) (other : ℕ) → released position reading ≡ Some other → (reading ≡ Some other) × (other ≡ position → ⊥)
at_is position None other e = absurd cc
at_is position (Some q) other e = by (q == position) refl e
  where
    by : (b : Bool) → (q == position) ≡ b → cond b None (Some q) ≡ Some other → (Some q ≡ Some other) × (other ≡ position → ⊥)
    by true f g = absurd cc
    by false f g = let is : q ≡ other = cc in (g, (λ h. true≢false (sym (eq-eqb q position (is ∙ h)) ∙ f)))

module _ (t : TableState) (right : IsTable t) where
  -- ---- a share is told

  module _ (server share : ℕ) (n : NumberState) (there : IsNumber t share n) where
    abbrev pub told_table : TableState
    told_table = record {
      holdings = t.holdings ++ told_one server share ∷ [];
      numbers = slice_set t.numbers share (with_position (length t.holdings) n);
    }

    -- a holding afterwards is an old one, or the new one
    told_cases : (position : ℕ) (h : Holding) → IsHolding told_table position h → (IsHolding t position h × (position < length t.holdings)) ⊎ ((position ≡ length t.holdings) × (told_one server share ≡ h))
    told_cases position h e =
        let len : length (t.holdings ++ told_one server share ∷ []) ≡ length t.holdings + 1 = length-append t.holdings (told_one server share ∷ []) in
        let within : position < length (t.holdings ++ told_one server share ∷ []) = slice_get_within (t.holdings ++ told_one server share ∷ []) position h e in
        elim (cases_lt position (length t.holdings)) [
          | inl lt ↦ inl (sym (get_push t.holdings (told_one server share) position lt) ∙ e, lt)
          | inr le ↦
              let is : position ≡ length t.holdings = omega (arith, le, within, len) in
              let last : Some (told_one server share) ≡ Some h = sym (get_last t.holdings (told_one server share)) ∙ sym (ap (slice_get (t.holdings ++ told_one server share ∷ [])) is) ∙ e in
              inr (is, (let k : told_one server share ≡ h = cc in k))
        ]

    pub told_right : IsTable told_table
    told_right = record {
      below = λ position h e. subst (λ (l : ℕ). h.share < l) (sym (length-set t.numbers share (with_position (length t.holdings) n))) (elim (told_cases position h e) [
        | inl k ↦ right.below position h k.0
        | inr k ↦ subst (λ (x : Holding). x.share < length t.numbers) k.1 (slice_get_within t.numbers share n there)
      ]);
      listed = λ position h m e left at. elim (set_cases t.numbers share h.share (with_position (length t.holdings) n) m at) [
        | inl k ↦ subst (λ (x : NumberState). Contains x.left position) k.1 (elim (told_cases position h e) [
          | inl old ↦ Contains-append_left n.left (length t.holdings ∷ []) position (right.listed position h n old.0 left (ap (slice_get t.numbers) k.0 ∙ there))
          | inr new ↦ subst (Contains (n.left ++ length t.holdings ∷ [])) (sym new.0) (Contains-push n.left (length t.holdings))
        ])
        | inr k ↦ elim (told_cases position h e) [
          | inl old ↦ right.listed position h m old.0 left k.1
          | inr new ↦ absurd (k.0 (sym (ap (λ (x : Holding). x.share) new.1)))
        ]
      ];
      positions = λ number position m at c. elim (set_cases t.numbers share number (with_position (length t.holdings) n) m at) [
        | inl k ↦ elim (Contains-push_cases n.left (length t.holdings) position (subst (λ (x : NumberState). Contains x.left position) (sym k.1) c)) [
          | inl old ↦ (let r = right.positions share position n there old in (r.0, front position r.0 r.1, r.2 ∙ sym k.0, r.3))
          | inr is ↦ (told_one server share, subst (λ (p : ℕ). slice_get (t.holdings ++ told_one server share ∷ []) p ≡ Some (told_one server share)) is (get_last t.holdings (told_one server share)), sym k.0, refl)
        ]
        | inr k ↦ (let r = right.positions number position m k.1 c in (r.0, front position r.0 r.1, r.2, r.3))
      ];
      reading = λ number position m at e. elim (set_cases t.numbers share number (with_position (length t.holdings) n) m at) [
        | inl k ↦ subst (λ (x : NumberState). Contains x.left position) k.1 (Contains-append_left n.left (length t.holdings ∷ []) position (right.reading share position n there (ap (λ (x : NumberState). x.reading) k.1 ∙ e)))
        | inr k ↦ right.reading number position m k.1 e
      ];
    }
      where
        front : (position : ℕ) (h : Holding) → IsHolding t position h → IsHolding told_table position h
        front position h e = get_push t.holdings (told_one server share) position (slice_get_within t.holdings position h e) ∙ e

  -- ---- one holding is changed, and its number

  module _ (position : ℕ) (h : Holding) (is : IsHolding t position h) (n : NumberState) (there : IsNumber t h.share n) where
    abbrev pub retired_table : TableState
    retired_table = record {
      holdings = slice_set t.holdings position (record h { left = false });
      numbers = slice_set t.numbers h.share (without_position position n);
    }

    pub retired_right : IsTable retired_table
    retired_right = record {
      below = λ q g e. subst (λ (l : ℕ). g.share < l) (sym (length-set t.numbers h.share (without_position position n))) (elim (set_cases t.holdings position q (record h { left = false }) g e) [
        | inl k ↦ subst (λ (x : Holding). x.share < length t.numbers) k.1 (right.below position h is)
        | inr k ↦ right.below q g k.1
      ]);
      listed = λ q g m e left at. elim (set_cases t.holdings position q (record h { left = false }) g e) [
        | inl k ↦ absurd (true≢false (sym left ∙ sym (ap (λ (x : Holding). x.left) k.1)))
        | inr k ↦ elim (set_cases t.numbers h.share g.share (without_position position n) m at) [
          | inl same-share ↦ subst (λ (x : NumberState). Contains x.left q) same-share.1 (without_keeps position q n.left (right.listed q g n k.1 left (ap (slice_get t.numbers) same-share.0 ∙ there)) k.0)
          | inr other ↦ right.listed q g m k.1 left other.1
        ]
      ];
      positions = λ number q m at c. elim (set_cases t.numbers h.share number (without_position position n) m at) [
        | inl k ↦
            let w = from_without position q n.left (subst (λ (x : NumberState). Contains x.left q) (sym k.1) c) in
            let r = right.positions h.share q n there w.0 in
            (r.0, get_other t.holdings position q (record h { left = false }) w.1 ∙ r.1, r.2 ∙ sym k.0, r.3)
        | inr k ↦
            let r = right.positions number q m k.1 c in
            let other : q ≡ position → ⊥ = λ e. k.0 (let two : Some r.0 ≡ Some h = sym r.1 ∙ ap (slice_get t.holdings) e ∙ is in let one : r.0 ≡ h = cc in sym r.2 ∙ ap (λ (x : Holding). x.share) one) in
            (r.0, get_other t.holdings position q (record h { left = false }) other ∙ r.1, r.2, r.3)
      ];
      reading = λ number q m at e. elim (set_cases t.numbers h.share number (without_position position n) m at) [
        | inl k ↦
            let w = at_is position n.reading q (ap (λ (x : NumberState). x.reading) k.1 ∙ e) in
            subst (λ (x : NumberState). Contains x.left q) k.1 (without_keeps position q n.left (right.reading h.share q n there w.0) w.1)
        | inr k ↦ right.reading number q m k.1 e
      ];
    }

    -- the holdings and the lists stay, and another one of the number is read, or none
    pub renumbered : (m : NumberState) → m.left ≡ n.left → ((q : ℕ) → m.reading ≡ Some q → Contains n.left q) → IsTable (record { holdings = t.holdings; numbers = slice_set t.numbers h.share m })
    renumbered m lefts reads = record {
      below = λ q g e. subst (λ (l : ℕ). g.share < l) (sym (length-set t.numbers h.share m)) (right.below q g e);
      listed = λ q g k e left at. elim (set_cases t.numbers h.share g.share m k at) [
        | inl s ↦ subst (λ (x : NumberState). Contains x.left q) s.1 (subst (λ (l : List ℕ). Contains l q) (sym lefts) (right.listed q g n e left (ap (slice_get t.numbers) s.0 ∙ there)))
        | inr o ↦ right.listed q g k e left o.1
      ];
      positions = λ number q k at c. elim (set_cases t.numbers h.share number m k at) [
        | inl s ↦ (let r = right.positions h.share q n there (subst (λ (l : List ℕ). Contains l q) lefts (subst (λ (x : NumberState). Contains x.left q) (sym s.1) c)) in (r.0, r.1, r.2 ∙ sym s.0, r.3))
        | inr o ↦ right.positions number q k o.1 c
      ];
      reading = λ number q k at e. elim (set_cases t.numbers h.share number m k at) [
        | inl s ↦ subst (λ (x : NumberState). Contains x.left q) s.1 (subst (λ (l : List ℕ). Contains l q) (sym lefts) (reads q (ap (λ (x : NumberState). x.reading) s.1 ∙ e)))
        | inr o ↦ right.reading number q k o.1 e
      ];
    }

-- ---- of how many numbers a holding is read

-- does a number count?
abbrev pub reads_one : NumberState → ℕ
reads_one n = cond (is_some n.reading) 1 0

-- one number is changed
count_set : (ns : List NumberState) (share : ℕ) (n m : NumberState) → slice_get ns share ≡ Some n → read_count (slice_set ns share m) + reads_one n ≡ read_count ns + reads_one m
count_set ns share n m there =
    subst (λ (x : NumberState). read_count (slice_set ns share m) + reads_one x ≡ read_count ns + reads_one m) (get_or_from_slice_get ns share n n there)
    (sum_by-set reads_one ns share m n (slice_get_within ns share n there))

one_released : (position : ℕ) (reading : Option ℕ) → cond (is_some (released position reading)) 1 0 + bool_byte (is_at position reading) ≡ cond (is_some reading) 1 0
one_released position None = refl
one_released position (Some q) = by (q == position)
  where
    by : (b : Bool) → cond (is_some (cond b None (Some q))) 1 0 + bool_byte b ≡ 1
    by true = refl
    by false = refl

pub count_released : (ns : List NumberState) (share position : ℕ) (n m : NumberState) → slice_get ns share ≡ Some n → m.reading ≡ released position n.reading → read_count (slice_set ns share m) + bool_byte (is_at position n.reading) ≡ read_count ns
count_released ns share position n m there e =
    let k = count_set ns share n m there in
    let one = one_released position n.reading in
    let same : reads_one m ≡ cond (is_some (released position n.reading)) 1 0 = ap (λ (o : Option ℕ). cond (is_some o) 1 0) e in
    omega (arith, k, one, same)

pub count_taken : (ns : List NumberState) (share position : ℕ) (n m : NumberState) → slice_get ns share ≡ Some n → n.reading ≡ None → m.reading ≡ Some position → read_count (slice_set ns share m) ≡ read_count ns + 1
count_taken ns share position n m there free e =
    let k = count_set ns share n m there in
    let one : reads_one n ≡ 0 = ap (λ (o : Option ℕ). cond (is_some o) 1 0) free in
    let same : reads_one m ≡ 1 = ap (λ (o : Option ℕ). cond (is_some o) 1 0) e in
    omega (arith, k, one, same)

pub count_same : (ns : List NumberState) (share : ℕ) (n m : NumberState) → slice_get ns share ≡ Some n → m.reading ≡ n.reading → read_count (slice_set ns share m) ≡ read_count ns
count_same ns share n m there e =
    let k = count_set ns share n m there in
    let same : reads_one m ≡ reads_one n = ap (λ (o : Option ℕ). cond (is_some o) 1 0) e in
    omega (arith, k, same)

-- ---- as the code changes it

-- a holding at an index, and its number
pub record Indexed (t : TableState) (position share : ℕ) (h : Holding) (n : NumberState) : Type 0 where
  pub is : IsHolding t position h
  pub there : IsNumber t h.share n
  pub same-share : share ≡ h.share

indexed : (t : TableState) (position share : ℕ) (h : Holding) (n : NumberState) → IsTable t → position < length t.holdings → h ≡ slice_index_or t.holdings position h → share ≡ h.share → n ≡ slice_index_or t.numbers share n → Indexed t position share h n
indexed t position share h n right lt e f g =
    let is : IsHolding t position h = got t.holdings position h lt e in
    record {
      is = is;
      there = got t.numbers h.share n (right.below position h is) (subst (λ (s : ℕ). n ≡ slice_index_or t.numbers s n) f g);
      same-share = f;
    }

pub retires_by : (t : TableState) (position share : ℕ) (h : Holding) (n m : NumberState) → IsTable t → position < length t.holdings → h ≡ slice_index_or t.holdings position h → share ≡ h.share → n ≡ slice_index_or t.numbers share n → m ≡ without_position position n → Retires position t (record { holdings = slice_set t.holdings position (record h { left = false }); numbers = slice_set t.numbers share m })
retires_by t position share h n m right lt e f g k =
    let i = indexed t position share h n right lt e f g in
    (h, record { is = i.is; holdings = refl }, record { number = n; is = i.there; numbers = ap (λ (s : ℕ). slice_set t.numbers s m) f ∙ ap (slice_set t.numbers h.share) k })

pub retired_by : (t : TableState) (position share : ℕ) (h : Holding) (n m : NumberState) → IsTable t → position < length t.holdings → h ≡ slice_index_or t.holdings position h → share ≡ h.share → n ≡ slice_index_or t.numbers share n → m ≡ without_position position n → IsTable (record { holdings = slice_set t.holdings position (record h { left = false }); numbers = slice_set t.numbers share m })
retired_by t position share h n m right lt e f g k =
    let i = indexed t position share h n right lt e f g in
    subst (λ (s : ℕ). IsTable (record { holdings = slice_set t.holdings position (record h { left = false }); numbers = slice_set t.numbers s m })) (sym f)
    (subst (λ (x : NumberState). IsTable (record { holdings = slice_set t.holdings position (record h { left = false }); numbers = slice_set t.numbers h.share x })) (sym k)
    (retired_right t right position h i.is n i.there))

pub count_by_index : (t : TableState) (position share : ℕ) (h : Holding) (n m : NumberState) → IsTable t → position < length t.holdings → h ≡ slice_index_or t.holdings position h → share ≡ h.share → n ≡ slice_index_or t.numbers share n → m.reading ≡ released position n.reading → read_count (slice_set t.numbers share m) + bool_byte (is_at position n.reading) ≡ read_count t.numbers
count_by_index t position share h n m right lt e f g k =
    let i = indexed t position share h n right lt e f g in
    count_released t.numbers share position n m (subst (λ (s : ℕ). slice_get t.numbers s ≡ Some n) (sym f) i.there) k

pub count_bound : (t : TableState) (position share : ℕ) (h : Holding) (n : NumberState) → IsTable t → position < length t.holdings → h ≡ slice_index_or t.holdings position h → share ≡ h.share → n ≡ slice_index_or t.numbers share n → bool_byte (is_at position n.reading) ≤ read_count t.numbers
count_bound t position share h n right lt e f g =
    let k = count_by_index t position share h n (without_position position n) right lt e f g refl in
    omega (arith, k)

pub releases_by : (t : TableState) (position share : ℕ) (h : Holding) (n m : NumberState) → IsTable t → position < length t.holdings → h ≡ slice_index_or t.holdings position h → share ≡ h.share → n ≡ slice_index_or t.numbers share n → m ≡ record n { reading = released position n.reading } → Releases position t (record { holdings = t.holdings; numbers = slice_set t.numbers share m })
releases_by t position share h n m right lt e f g k =
    let i = indexed t position share h n right lt e f g in
    (h, i.is, refl, record { number = n; is = i.there; numbers = ap (λ (s : ℕ). slice_set t.numbers s m) f ∙ ap (slice_set t.numbers h.share) k })

pub released_by : (t : TableState) (position share : ℕ) (h : Holding) (n m : NumberState) → IsTable t → position < length t.holdings → h ≡ slice_index_or t.holdings position h → share ≡ h.share → n ≡ slice_index_or t.numbers share n → m ≡ record n { reading = released position n.reading } → IsTable (record { holdings = t.holdings; numbers = slice_set t.numbers share m })
released_by t position share h n m right lt e f g k =
    let i = indexed t position share h n right lt e f g in
    subst (λ (s : ℕ). IsTable (record { holdings = t.holdings; numbers = slice_set t.numbers s m })) (sym f)
    (renumbered t right position h i.is n i.there m (ap (λ (x : NumberState). x.left) k)
    (λ q e. right.reading h.share q n i.there (at_is position n.reading q (sym (ap (λ (x : NumberState). x.reading) k) ∙ e)).0))

pub takes_by : (t : TableState) (position share : ℕ) (h : Holding) (n m : NumberState) → IsTable t → position < length t.holdings → h ≡ slice_index_or t.holdings position h → share ≡ h.share → n ≡ slice_index_or t.numbers share n → m ≡ record n { reading = taken_up position n.reading } → TakesUp position t (record { holdings = t.holdings; numbers = slice_set t.numbers share m })
takes_by t position share h n m right lt e f g k =
    let i = indexed t position share h n right lt e f g in
    (h, i.is, refl, record { number = n; is = i.there; numbers = ap (λ (s : ℕ). slice_set t.numbers s m) f ∙ ap (slice_set t.numbers h.share) k })

-- one that is free is read from now on
pub record FreeAt (t : TableState) (position share : ℕ) (n m : NumberState) : Type 0 where
  pub right : IsTable (record { holdings = t.holdings; numbers = slice_set t.numbers share m })
  pub more : read_count (slice_set t.numbers share m) ≡ read_count t.numbers + 1

pub taken_by : (t : TableState) (position share : ℕ) (h : Holding) (n m : NumberState) → IsTable t → position < length t.holdings → h ≡ slice_index_or t.holdings position h → share ≡ h.share → n ≡ slice_index_or t.numbers share n → m ≡ record n { reading = taken_up position n.reading } → (g : Holding) → IsHolding t position g → IsFree t g → FreeAt t position share n m
taken_by t position share h n m right lt e f g k free-one at free =
    let i = indexed t position share h n right lt e f g in
    let one : free-one ≡ h = let two : Some free-one ≡ Some h = sym at ∙ i.is in cc in
    let number : free.number ≡ n = let two : Some free.number ≡ Some n = sym free.there ∙ ap (λ (x : Holding). slice_get t.numbers x.share) one ∙ i.there in cc in
    let none : n.reading ≡ None = sym (ap (λ (x : NumberState). x.reading) number) ∙ free.unread in
    let some : m.reading ≡ Some position = ap (λ (x : NumberState). x.reading) k ∙ ap (taken_up position) none in
    record {
      right = subst (λ (s : ℕ). IsTable (record { holdings = t.holdings; numbers = slice_set t.numbers s m })) (sym f)
          (renumbered t right position h i.is n i.there m (ap (λ (x : NumberState). x.left) k)
          (λ q e. let two : Some position ≡ Some q = sym some ∙ e in let is : position ≡ q = cc in
          subst (Contains n.left) is (right.listed position h n i.is (subst (λ (x : Holding). x.left ≡ true) one free.left) i.there)));
      more = count_taken t.numbers share position n m (subst (λ (s : ℕ). slice_get t.numbers s ≡ Some n) (sym f) i.there) none some;
    }

-- whether one may be chosen is changed
pub suspended_right : (t : TableState) (position : ℕ) (h : Holding) (suspended : Bool) → IsTable t → IsHolding t position h → IsTable (record { holdings = slice_set t.holdings position (record h { suspended = suspended }); numbers = t.numbers })
suspended_right t position h suspended right is = record {
  below = λ q g e. elim (set_cases t.holdings position q (record h { suspended = suspended }) g e) [
    | inl k ↦ subst (λ (x : Holding). x.share < length t.numbers) k.1 (right.below position h is)
    | inr k ↦ right.below q g k.1
  ];
  listed = λ q g n e left at. elim (set_cases t.holdings position q (record h { suspended = suspended }) g e) [
    | inl k ↦ subst (Contains n.left) (sym k.0) (right.listed position h n is (ap (λ (x : Holding). x.left) k.1 ∙ left) (ap (λ (x : Holding). slice_get t.numbers x.share) k.1 ∙ at))
    | inr k ↦ right.listed q g n k.1 left at
  ];
  positions = λ number q n at c. by q (right.positions number q n at c);
  reading = right.reading;
}
  where
    by : {number : ℕ} (q : ℕ) → ((g : Holding) × IsHolding t q g × (g.share ≡ number) × (g.left ≡ true)) → (g : Holding) × (slice_get (slice_set t.holdings position (record h { suspended = suspended })) q ≡ Some g) × (g.share ≡ number) × (g.left ≡ true)
    by q r = elim (cases_eq q position) [
      | inl e ↦
          let two : Some r.0 ≡ Some h = sym r.1 ∙ ap (slice_get t.holdings) e ∙ is in
          let one : r.0 ≡ h = cc in
          (record h { suspended = suspended }, ap (slice_get (slice_set t.holdings position (record h { suspended = suspended }))) e ∙ get_set t.holdings position (record h { suspended = suspended }) h is, sym (ap (λ (x : Holding). x.share) one) ∙ r.2, sym (ap (λ (x : Holding). x.left) one) ∙ r.3)
      | inr ne ↦ (r.0, get_other t.holdings position q (record h { suspended = suspended }) ne ∙ r.1, r.2, r.3)
    ]

pub suspends_by : (t : TableState) (position : ℕ) (h : Holding) (suspended : Bool) → position < length t.holdings → h ≡ slice_index_or t.holdings position h → Suspends suspended position t (record { holdings = slice_set t.holdings position (record h { suspended = suspended }); numbers = t.numbers })
suspends_by t position h suspended lt e = (refl, (h, record { is = got t.holdings position h lt e; holdings = refl }))

pub suspended_by : (t : TableState) (position : ℕ) (h : Holding) (suspended : Bool) → IsTable t → position < length t.holdings → h ≡ slice_index_or t.holdings position h → IsTable (record { holdings = slice_set t.holdings position (record h { suspended = suspended }); numbers = t.numbers })
suspended_by t position h suspended right lt e = suspended_right t position h suspended right (got t.holdings position h lt e)

-- a share is told, as the code does it
pub record TellsAt (t : TableState) (server share index : ℕ) (hs : List Holding) (m : NumberState) : Type 0 where
  pub right : IsTable (record { holdings = hs; numbers = slice_set t.numbers index m })
  pub changes : ChangesNumber share (with_position (length t.holdings)) t (record { holdings = hs; numbers = slice_set t.numbers index m })
  pub count : read_count (slice_set t.numbers index m) ≡ read_count t.numbers

pub tells_by : (t : TableState) (server share index : ℕ) (hs : List Holding) (n m : NumberState) → IsTable t → share < length t.numbers → hs ≡ t.holdings ++ told_one server share ∷ [] → index ≡ share → n ≡ slice_index_or t.numbers index n → m ≡ with_position (length t.holdings) n → TellsAt t server share index hs m
tells_by t server share index hs n m right lt h f g k =
    let there : IsNumber t share n = got t.numbers share n lt (subst (λ (s : ℕ). n ≡ slice_index_or t.numbers s n) f g) in
    let same : slice_set t.numbers index m ≡ slice_set t.numbers share (with_position (length t.holdings) n) = ap (λ (s : ℕ). slice_set t.numbers s m) f ∙ ap (slice_set t.numbers share) k in
    record {
      right = subst (λ (l : List NumberState). IsTable (record { holdings = hs; numbers = l })) (sym same)
          (subst (λ (l : List Holding). IsTable (record { holdings = l; numbers = slice_set t.numbers share (with_position (length t.holdings) n) })) (sym h) (told_right t right server share n there));
      changes = record { number = n; is = there; numbers = same };
      count = ap read_count same ∙ count_same t.numbers share n (with_position (length t.holdings) n) there refl;
    }

-- ---- choosing

take_one : (xs : List ℕ) (i x : ℕ) → i < length xs → x ≡ slice_index_or xs i x → take i xs ++ x ∷ [] ≡ take (i + 1) xs
take_one xs i x lt e = ap (λ (y : ℕ). take i xs ++ y ∷ []) e ∙ sym (take_more xs i x lt)

chooses_kept : (t : TableState) (positions : List ℕ) (p q : ℕ) → Chooses t positions (Some p) → Chooses t (positions ++ q ∷ []) (Some p)
chooses_kept t positions p q k = (Contains-append_left positions (q ∷ []) p k.0, k.1)

pub chooses_this : (t : TableState) (positions : List ℕ) (i q : ℕ) (h : Holding) → i < length positions → q ≡ slice_index_or positions i q → q < length t.holdings → h ≡ slice_index_or t.holdings q h → h.suspended ≡ false → Chooses t (take (i + 1) positions) (Some q)
chooses_this t positions i q h lt e there at free =
    subst (λ (l : List ℕ). Chooses t l (Some q)) (take_one positions i q lt e)
    (Contains-push (take i positions) q, (h, got t.holdings q h there at, free))

-- one more that may not be chosen, or another one is better
pub chooses_on : (t : TableState) (positions : List ℕ) (i q : ℕ) (h : Holding) (chosen : Option ℕ) → i < length positions → q ≡ slice_index_or positions i q → q < length t.holdings → h ≡ slice_index_or t.holdings q h → (is_some chosen ≡ true) ⊎ (h.suspended ≡ true) → Chooses t (take i positions) chosen → Chooses t (take (i + 1) positions) chosen
chooses_on t positions i q h (Some p) lt e there at why k = subst (λ (l : List ℕ). Chooses t l (Some p)) (take_one positions i q lt e) (chooses_kept t (take i positions) p q k)
chooses_on t positions i q h None lt e there at (inl some) k = absurd (true≢false (sym some))
chooses_on t positions i q h None lt e there at (inr suspended) k = subst (λ (l : List ℕ). Chooses t l None) (take_one positions i q lt e)
    (λ position g c is. elim (Contains-push_cases (take i positions) q position c) [
      | inl old ↦ k position g old is
      | inr same-position ↦ (let two : Some h ≡ Some g = sym (got t.holdings q h there at) ∙ ap (slice_get t.holdings) same-position ∙ is in let one : h ≡ g = cc in sym (ap (λ (x : Holding). x.suspended) one) ∙ suspended)
    ])

-- those that are left of a number are among the holdings
pub left_inside : (t : TableState) (i : ℕ) (n : NumberState) → IsTable t → i < length t.numbers → n ≡ slice_index_or t.numbers i n → All (λ position. position < length t.holdings) n.left
left_inside t i n right lt e = λ k d within.
    let position : ℕ = slice_index_or n.left k d in
    let same : slice_index_or n.left k position ≡ position = get_or_from_slice_get n.left k position position (slice_get-get_or n.left k d within) in
    let r = right.positions i position n (got t.numbers i n lt e) (k, within, same) in
    slice_get_within t.holdings position r.0 r.1

-- the one that is chosen of a number of which none is read
pub free_here : (t : TableState) (i p : ℕ) (n : NumberState) → IsTable t → IsNumber t i n → n.reading ≡ None → Chooses t n.left (Some p) → (h : Holding) × IsHolding t p h × IsFree t h
free_here t i p n right there unread k =
    let r = right.positions i p n there k.0 in
    let same : k.1.0 ≡ r.0 = let two : Some k.1.0 ≡ Some r.0 = sym k.1.1 ∙ r.1 in cc in
    (r.0, r.1, record { left = r.3; choosable = sym (ap (λ (x : Holding). x.suspended) same) ∙ k.1.2; number = n; there = ap (slice_get t.numbers) r.2 ∙ there; unread = unread })

-- none of a number may be read
none_more : (t : TableState) (i : ℕ) → NoneIsFreeBefore t i → ((position : ℕ) (h : Holding) → IsHolding t position h → IsFree t h → h.share ≡ i → ⊥) → NoneIsFreeBefore t (i + 1)
none_more t i before here position h is free lt = elim (cases_lt h.share i) [
  | inl less ↦ before position h is free less
  | inr le ↦ here position h is free (omega (arith, le, lt))
]

-- no holding of a lower number may be read than of the one that is chosen
pub lowest_here : (t : TableState) (i : ℕ) (n : NumberState) → IsTable t → IsNumber t i n → NoneIsFreeBefore t i → (o : Option ℕ) → Chooses t n.left o
    → IfSome o (λ (position : ℕ). (h : Holding) → IsHolding t position h → NoneIsFreeBefore t h.share)
lowest_here t i n right there none None k = tt
lowest_here t i n right there none (Some p) k = λ h at.
    let found = right.positions i p n there k.0 in
    let same : found.0 ≡ h = let two : Some found.0 ≡ Some h = sym found.1 ∙ at in cc in
    subst (NoneIsFreeBefore t) (sym found.2 ∙ ap (λ (x : Holding). x.share) same) none

pub none_chosen : (t : TableState) (i : ℕ) (n : NumberState) → IsTable t → IsNumber t i n → Chooses t n.left None → NoneIsFreeBefore t i → NoneIsFreeBefore t (i + 1)
none_chosen t i n right there k before = none_more t i before (λ position h is free e.
    let c : Contains n.left position = right.listed position h n is free.left (ap (slice_get t.numbers) e ∙ there) in
    true≢false (sym (k position h c is) ∙ free.choosable))

pub one_read : (t : TableState) (i : ℕ) (n : NumberState) → IsNumber t i n → is_some n.reading ≡ true → NoneIsFreeBefore t i → NoneIsFreeBefore t (i + 1)
one_read t i n there some before = none_more t i before (λ position h is free e.
    let same : free.number ≡ n = let two : Some free.number ≡ Some n = sym free.there ∙ ap (slice_get t.numbers) e ∙ there in cc in
    true≢false (sym some ∙ sym (ap (λ (x : NumberState). is_some x.reading) same) ∙ ap is_some free.unread))

pub none_at_all : (t : TableState) (end : ℕ) → IsTable t → length t.numbers ≤ end → NoneIsFreeBefore t end → (position : ℕ) (h : Holding) → IsHolding t position h → IsFree t h → ⊥
none_at_all t end right le all position h is free =
    let lt = right.below position h is in
    all position h is free (omega (arith, le, lt))

-- ---- a table without holdings

empty_count : (ns : List NumberState) → All (λ (n : NumberState). n ≡ no_holding) ns → read_count ns ≡ 0
empty_count [] all = refl
empty_count (n ∷ ns) all =
    let one : reads_one n ≡ 0 = ap reads_one (All-head (λ (m : NumberState). m ≡ no_holding) n ns all) in
    let rest = empty_count ns (All-tail (λ (m : NumberState). m ≡ no_holding) n ns all) in
    let both : read_count (n ∷ ns) ≡ reads_one n + read_count ns = sum_by-cons reads_one n ns in
    omega (arith, one, rest, both)

pub record IsEmpty (ns : List NumberState) : Type 0 where
  pub right : IsTable (record { holdings = []; numbers = ns })
  pub count : 0 ≡ read_count ns

pub empty_right : (ns : List NumberState) → All (λ (n : NumberState). n ≡ no_holding) ns → IsEmpty ns
empty_right ns all = record {
  right = record {
    below = λ position h e. absurd cc;
    listed = λ position h n e left at. absurd cc;
    positions = λ share position n at c. absurd (none share position n at c);
    reading = λ share position n at e. let is = is_none share n at in let two : None ≡ Some position = sym (ap (λ (x : NumberState). x.reading) is) ∙ e in absurd cc;
  };
  count = sym (empty_count ns all);
}
  where
    is_none : (share : ℕ) (n : NumberState) → slice_get ns share ≡ Some n → n ≡ no_holding
    is_none share n at = subst (λ (x : NumberState). x ≡ no_holding) (get_or_from_slice_get ns share n n at) (all share n (slice_get_within ns share n at))

    none : (share position : ℕ) (n : NumberState) → slice_get ns share ≡ Some n → Contains n.left position → ⊥
    none share position n at c = let d : Contains [] position = subst (λ (x : NumberState). Contains x.left position) (is_none share n at) c in omega (arith, d.1)
