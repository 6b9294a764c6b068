-- Keys are in a total order.
use Rattle.std.proofs.Common.{◌≡◌, ℕ, ◌+◌, ◌≤◌, ◌<◌, Bool, true, false, List, refl, sym, ap, ◌∙◌, is_gt, arith}
use Rattle.std.specs.Prelude.{◌&&◌}
use Rattle.std.specs.Cmp.{IsTotalOrder}
use Rattle.std.specs.Ordering.{nat_cmp, ordering_then, is_eq}
use Rattle.std.specs.Cmp.Lexicographic.{slice_cmp}
use Rattle.std.specs.declared.cmp.Ordering.{Ordering}
use Rattle.std.specs.declared.cmp.Ordering.TheVariants.{Less, Equal, Greater}
use Rattle.std.proofs.lemmas.Cmp.{ranked, tied_itself, then_total, on_total, nat_cmp_total, nat_list_cmp_total}
use Rattle.share_store.specs.Shelf.{ShareKey, order, is_under}

pub order_total : IsTotalOrder order
order_total = then_total (on_total (λ (t : ShareKey). t.0) nat_list_cmp_total) (on_total (λ (t : ShareKey). t.1) nat_cmp_total)

-- the lowest key under a storage index is not above the highest
pub is_forward : (index : List ℕ) → is_gt (order (index, 0) (index, 255)) ≡ false
is_forward index = ap (λ (o : Ordering). is_gt (ordering_then o Less)) (tied_itself nat_list_cmp_total index)

pub both : (a b : Bool) → (a && b) ≡ true → (a ≡ true) × (b ≡ true)
both true b e = (refl, e)
both false b e = absurd cc

pub equal : (o : Ordering) → is_eq o ≡ true → o ≡ Equal
equal Less e = absurd cc
equal Equal e = refl
equal Greater e = absurd cc

-- the numbers of two keys under one storage index rise as the keys do
pub rises_under : (index : List ℕ) (x k : ShareKey) → is_under index x ≡ true → is_under index k ≡ true → order x k ≡ Less → x.1 + 1 ≤ k.1
rises_under index x k u v less =
    let p = equal (slice_cmp nat_cmp index x.0) (both _ _ u).0 in
    let q = equal (slice_cmp nat_cmp index k.0) (both _ _ v).0 in
    let same : slice_cmp nat_cmp x.0 k.0 ≡ Equal = sym (nat_list_cmp_total.congr index x.0 k.0 p) ∙ q in
    let below : Less ≡ nat_cmp x.1 k.1 = sym less ∙ ap (λ (o : Ordering). ordering_then o (nat_cmp x.1 k.1)) same in
    let lt : x.1 < k.1 = ranked x.1 k.1 Less below in
    omega arith
