-- What one more closed share changes, and what a list of the closed shares tells.
use Rattle.std.proofs.Common.{◌≡◌, ℕ, ◌+◌, Bool, true, false, cond, List, [], ◌∷◌, length, refl, sym, ap, ◌∙◌, arith}
use Rattle.std.specs.Prelude.{Option, Some, None, option_map, unwrap_or, map, filter}
use Rattle.std.specs.Cmp.Lexicographic.{slice_cmp}
use mathlib.Core.Bool.{true≢false}
use Rattle.std.specs.Ordering.{nat_cmp, is_eq, ordering_reverse, match_ordering}
use Rattle.std.specs.List.{AllByRecursion}
use Rattle.std.specs.List.Sorted.{IsStrictlySortedBy}
use Rattle.std.specs.Map.{keys_of}
use Rattle.std.specs.BTreeMap.{insert_entry}
use Rattle.std.specs.declared.cmp.Ordering.TheVariants.{Less, Equal, Greater}
use Rattle.std.proofs.lemmas.Cmp.{tied_itself, alike_right}
use Rattle.std.proofs.lemmas.Map.Entries.{sum_by-insert_entry}
use Rattle.std.proofs.lemmas.Map.Lookups.{exact_pairs, exact_bytes, exact_unsigned}
use Rattle.wire.specs.declared.message.HeldShare.{HeldShare}
use Rattle.share_store.specs.declared.shelf.ClosedShare.{ClosedShare}
use Rattle.share_store.specs.Shelf.{ShareKey, order, same_key, at, used, is_under, held}
use Rattle.share_store.proofs.HeldLaws.{share_of}
use Rattle.share_store.proofs.KeyLaws.{order_total, both, equal}

bytes_of : Option ClosedShare → ℕ
bytes_of found = unwrap_or (option_map (λ (c : ClosedShare). length c.bytes) found) 0

pub used_with : (cs : List (ShareKey × ClosedShare)) (key : ShareKey) (share : ClosedShare) → IsStrictlySortedBy order (keys_of cs) → at key cs ≡ None
    → used (insert_entry order cs key share) ≡ used cs + length share.bytes
unfolding bytes_of
used_with cs key share sorted none =
    let total = sum_by-insert_entry (λ (c : ClosedShare). length c.bytes) order_total cs key share sorted in
    let nothing : bytes_of (at key cs) ≡ 0 = ap bytes_of none in
    omega (arith, total, nothing)

absurd_of : Equal ≡ Greater → ⊥
absurd_of is = absurd (true≢false (ap is_eq is))

module _ {B : Type 0} where
  shadowed : (b : Bool) (x y z : B) → cond b x z ≡ cond b x (cond b y z)
  shadowed true x y z = refl
  shadowed false x y z = refl

  swapped : (a b : Bool) (x y z : B) → (a ≡ true → b ≡ true → ⊥) → cond a x (cond b y z) ≡ cond b y (cond a x z)
  swapped true true x y z apart = absurd (apart refl refl)
  swapped true false x y z apart = refl
  swapped false b x y z apart = refl

-- a key is not both
not_both : (q p r : ShareKey) → order p r ≡ Greater → same_key q r ≡ true → same_key q p ≡ true → ⊥
not_both q p r e a b = absurd_of (sym (sym (order_total.congr q p r (equal (order q p) b)) ∙ equal (order q r) a) ∙ e)

below_less : (x y : ShareKey) (ps : List ShareKey) → order x y ≡ Less → AllByRecursion (λ z. order y z ≡ Less) ps → AllByRecursion (λ z. order x z ≡ Less) ps
below_less x y [] less below = tt
below_less x y (p ∷ ps) less below = (order_total.trans x y p less below.0, below_less x y ps less below.1)

module _ {A : Type 0} where
  -- the new entry at its key, and the old ones at every other
  pub at_with : (q key : ShareKey) (share : A) (cs : List (ShareKey × A)) → at q (insert_entry order cs key share) ≡ cond (same_key q key) (Some share) (at q cs)
  at_with q key share [] = refl
  at_with q key share (c ∷ cs) =
      elim (order key c.0) as (λ r. order key c.0 ≡ r
      → at q (match_ordering r ((key, share) ∷ c ∷ cs) ((c.0, share) ∷ cs) (c ∷ insert_entry order cs key share)) ≡ cond (same_key q key) (Some share) (at q (c ∷ cs))) [
        | Less ↦ λ e. refl
        | Equal ↦ λ e. shadowed (same_key q c.0) (Some share) (Some c.1) (at q cs)
            ∙ ap (λ r. cond (is_eq r) (Some share) (at q (c ∷ cs))) (sym (alike_right order_total key c.0 q e))
        | Greater ↦ λ e. ap (cond (same_key q c.0) (Some c.1)) (at_with q key share cs)
            ∙ swapped (same_key q c.0) (same_key q key) (Some c.1) (Some share) (at q cs) (not_both q key c.0 e)
      ] refl

  -- what holds of every key and of the new one holds of every key after
  all_with : (P : ShareKey → Type 0) (key : ShareKey) (share : A) (cs : List (ShareKey × A)) → P key → AllByRecursion P (keys_of cs) → AllByRecursion P (keys_of (insert_entry order cs key share))
  all_with P key share [] new old = (new, tt)
  all_with P key share (c ∷ cs) new old =
      elim (order key c.0) as (λ r. AllByRecursion P (keys_of (match_ordering r ((key, share) ∷ c ∷ cs) ((c.0, share) ∷ cs) (c ∷ insert_entry order cs key share)))) [
        | Less ↦ (new, old)
        | Equal ↦ old
        | Greater ↦ (old.0, all_with P key share cs new old.1)
      ]

  -- the keys still rise
  pub sorted_with : (key : ShareKey) (share : A) (cs : List (ShareKey × A)) → IsStrictlySortedBy order (keys_of cs) → IsStrictlySortedBy order (keys_of (insert_entry order cs key share))
  unfolding IsStrictlySortedBy
  sorted_with key share [] sorted = (tt, tt)
  sorted_with key share (c ∷ cs) sorted =
      elim (order key c.0) as (λ r. order key c.0 ≡ r
      → IsStrictlySortedBy order (keys_of (match_ordering r ((key, share) ∷ c ∷ cs) ((c.0, share) ∷ cs) (c ∷ insert_entry order cs key share)))) [
        | Less ↦ λ e. ((e, below_less key c.0 (keys_of cs) e sorted.0), sorted)
        | Equal ↦ λ e. sorted
        | Greater ↦ λ e. (all_with (λ y. order c.0 y ≡ Less) key share cs (order_total.antisymm c.0 key ∙ ap ordering_reverse e) sorted.0, sorted_with key share cs sorted.1)
      ] refl

  -- every entry is found at its key
  pub found_at : (cs : List (ShareKey × A)) → IsStrictlySortedBy order (keys_of cs) → AllByRecursion (λ (e : ShareKey × A). at e.0 cs ≡ Some e.1) cs
  unfolding IsStrictlySortedBy
  found_at [] sorted = tt
  found_at (c ∷ cs) sorted =
      (ap (λ r. cond (is_eq r) (Some c.1) (at c.0 cs)) (tied_itself order_total c.0), later c cs cs sorted.0 (found_at cs sorted.1))
    where
      later : (c : ShareKey × A) (cs ds : List (ShareKey × A)) → AllByRecursion (λ y. order c.0 y ≡ Less) (keys_of ds)
          → AllByRecursion (λ (e : ShareKey × A). at e.0 cs ≡ Some e.1) ds → AllByRecursion (λ (e : ShareKey × A). at e.0 (c ∷ cs) ≡ Some e.1) ds
      later c cs [] below found = tt
      later c cs (d ∷ ds) below found =
          (ap (λ r. cond (is_eq r) (Some c.1) (at d.0 cs)) (order_total.antisymm d.0 c.0 ∙ ap ordering_reverse below.0) ∙ found.0, later c cs ds below.1 found.1)

-- keys that the order does not tell apart are one
pub same_is : (p q : ShareKey) → same_key p q ≡ true → p ≡ q
same_is p q e = exact_pairs (slice_cmp nat_cmp) nat_cmp exact_bytes exact_unsigned p q (equal (order p q) e)

index_is : (index other : List ℕ) → is_eq (slice_cmp nat_cmp index other) ≡ true → index ≡ other
index_is index other e = exact_bytes index other (equal (slice_cmp nat_cmp index other) e)

-- what is listed under a storage index is closed with that digest
IsTold : List ℕ → List (ShareKey × ClosedShare) → HeldShare → Type 0
IsTold index cs h = option_map (λ (c : ClosedShare). c.digest) (at (index, h.share) cs) ≡ Some h.digest

told_of : (index : List ℕ) (cs ds : List (ShareKey × ClosedShare)) → AllByRecursion (λ (e : ShareKey × ClosedShare). at e.0 cs ≡ Some e.1) ds → AllByRecursion (IsTold index cs) (held index ds)
unfolding IsTold
told_of index cs [] found = tt
told_of index cs (d ∷ ds) found =
    elim (is_under index d.0) as (λ b. is_under index d.0 ≡ b
    → AllByRecursion (IsTold index cs) (map (share_of (λ (c : ClosedShare). c.digest)) (cond b (d ∷ filter (λ e. is_under index e.0) ds) (filter (λ e. is_under index e.0) ds)))) [
      | true ↦ λ u.
          let same : index ≡ d.0.0 = index_is index d.0.0 (both _ _ u).0 in
          ((λ i. option_map (λ (c : ClosedShare). c.digest) (at (same i, d.0.1) cs)) ∙ ap (option_map (λ (c : ClosedShare). c.digest)) found.0, told_of index cs ds found.1)
      | false ↦ λ u. told_of index cs ds found.1
    ] refl

pub held_told : (index : List ℕ) (cs : List (ShareKey × ClosedShare)) → IsStrictlySortedBy order (keys_of cs)
    → AllByRecursion (λ (h : HeldShare). option_map (λ (c : ClosedShare). c.digest) (at (index, h.share) cs) ≡ Some h.digest) (held index cs)
unfolding IsTold
held_told index cs sorted = told_of index cs cs (found_at cs sorted)
