-- The closed shares under a storage index.
use Rattle.std.proofs.Common.{rules, ◌≡◌, ℕ, ◌+◌, ◌≤◌, Bool, true, false, cond, List, [], ◌∷◌, refl, ap, ◌∙◌, arith}
use Rattle.std.specs.Prelude.{◌&&◌, not, map, filter, nat_le}
use Rattle.std.specs.Ordering.{nat_cmp, ordering_then, is_eq, is_le, is_lt}
use Rattle.std.specs.Cmp.Lexicographic.{slice_cmp}
use Rattle.std.specs.List.{AllByRecursion}
use Rattle.std.specs.List.Sorted.{IsStrictlySortedBy}
use Rattle.std.specs.Map.{keys_of}
use Rattle.std.specs.BTreeMap.Range.{range_contains, entries_between}
use Rattle.std.specs.declared.cmp.Ordering.{Ordering}
use Rattle.std.specs.declared.cmp.Ordering.TheVariants.{Less, Equal, Greater}
use Rattle.std.specs.declared.ops.Bound.TheVariants.{Included}
use Rattle.std.proofs.lemmas.Bool.{le-leb}
use Rattle.std.proofs.lemmas.Map.Keys.{sorted_head, sorted_tail}
use Rattle.wire.specs.Held.{rises_from}
use Rattle.wire.specs.declared.message.HeldShare.{HeldShare}
use Rattle.share_store.specs.Shelf.{ShareKey, order, is_under, held_by}
use Rattle.share_store.proofs.KeyLaws.{rises_under}

-- what lies between the lowest and the highest key of a storage index is under it
range_under : (index : List ℕ) (key : ShareKey) → range_contains order (Included (index, 0)) (Included (index, 255)) key ≡ is_under index key
range_under index key = by (slice_cmp nat_cmp index key.0)
  where
    by : (o : Ordering) → (is_le (ordering_then o (nat_cmp 0 key.1)) && not (is_lt (ordering_then o (nat_cmp 255 key.1)))) ≡ (is_eq o && nat_le key.1 255)
    by Less = refl
    by Equal = number key.1
      where
        number : (n : ℕ) → (is_le (nat_cmp 0 n) && not (is_lt (nat_cmp 255 n))) ≡ nat_le n 255
        number n = search rules
    by Greater = refl

-- the numbers under a storage index are at least so great
abbrev Above : List ℕ → ℕ → List ShareKey → Type 0
Above index low = AllByRecursion (λ key. is_under index key ≡ true → low ≤ key.1)

above_first : (index : List ℕ) (x : ShareKey) → is_under index x ≡ true → (ps : List ShareKey) → AllByRecursion (λ y. order x y ≡ Less) ps → Above index (x.1 + 1) ps
above_first index x u [] below = tt
above_first index x u (p ∷ ps) below = ((λ v. rises_under index x p u v below.0), above_first index x u ps below.1)

above_none : (index : List ℕ) (ps : List ShareKey) → Above index 0 ps
above_none index [] = tt
above_none index (p ∷ ps) = ((λ u. omega arith), above_none index ps)

module _ {A : Type 0} where
  filter_same : (p q : ShareKey × A → Bool) → ((e : ShareKey × A) → p e ≡ q e) → (es : List (ShareKey × A)) → filter p es ≡ filter q es
  filter_same p q same [] = refl
  filter_same p q same (e ∷ es) = λ i. cond (same e i) (e ∷ filter_same p q same es i) (filter_same p q same es i)

  abbrev pub share_of : (A → List ℕ) → ShareKey × A → HeldShare
  share_of digest_of e = record { share = e.0.1; digest = digest_of e.1 }

  pub between_held : (digest_of : A → List ℕ) (index : List ℕ) (es : List (ShareKey × A))
      → map (share_of digest_of) (entries_between order (Included (index, 0)) (Included (index, 255)) es) ≡ held_by digest_of index es
  between_held digest_of index es = ap (map (share_of digest_of)) (filter_same _ _ (λ e. range_under index e.0) es)

  rises_on : (digest_of : A → List ℕ) (index : List ℕ) (low : ℕ) (es : List (ShareKey × A)) → IsStrictlySortedBy order (keys_of es) → Above index low (keys_of es)
      → rises_from low (held_by digest_of index es) ≡ true
  rises_on digest_of index low [] sorted above = refl
  rises_on digest_of index low (e ∷ es) sorted above =
      elim (is_under index e.0) as (λ b. is_under index e.0 ≡ b
      → rises_from low (map (share_of digest_of) (cond b (e ∷ filter (λ x. is_under index x.0) es) (filter (λ x. is_under index x.0) es))) ≡ true) [
        | true ↦ λ u. ap (λ b. b && rises_from (e.0.1 + 1) (held_by digest_of index es)) (le-leb low e.0.1 (above.0 u))
            ∙ rises_on digest_of index (e.0.1 + 1) es (sorted_tail order e.0 (keys_of es) sorted)
            (above_first index e.0 u (keys_of es) (sorted_head order e.0 (keys_of es) sorted))
        | false ↦ λ u. rises_on digest_of index low es (sorted_tail order e.0 (keys_of es) sorted) above.1
      ] refl

  pub held_rises : (digest_of : A → List ℕ) (index : List ℕ) (es : List (ShareKey × A)) → IsStrictlySortedBy order (keys_of es) → rises_from 0 (held_by digest_of index es) ≡ true
  held_rises digest_of index es sorted = rises_on digest_of index 0 es sorted (above_none index (keys_of es))
