-- Look-ups of closed shares.
use Rattle.std.proofs.Common.{◌≡◌, ℕ, Bool, false, cond, List, Some, ap, refl, ◌∙◌, arith}
use Rattle.std.specs.Prelude.{◌&&◌, nat_eq, bytes_eq, All}
use Rattle.std.specs.Ordering.{nat_cmp, ordering_then, is_eq}
use Rattle.std.specs.Cmp.Lexicographic.{slice_cmp}
use Rattle.std.specs.List.Sorted.{IsStrictlySortedBy}
use Rattle.std.specs.Map.{keys_of}
use Rattle.std.specs.BTreeMap.{insert_entry}
use Rattle.std.specs.declared.cmp.Ordering.{Ordering}
use Rattle.std.specs.declared.cmp.Ordering.TheVariants.{Less, Equal, Greater}
use Rattle.std.proofs.lemmas.Bool.Decides.{nat_tests}
use Rattle.std.proofs.lemmas.Cmp.{tied_itself}
use Rattle.std.proofs.lemmas.Map.Text.{is_eq-slice_cmp}
use Rattle.std.proofs.lemmas.List.Elements.{All-from_recursion}
use Rattle.wire.specs.declared.message.ShareId.{ShareId}
use Rattle.wire.specs.declared.message.HeldShare.{HeldShare}
use Rattle.share_store.specs.declared.shelf.ClosedShare.{ClosedShare}
use Rattle.share_store.specs.Shelf.{ShareKey, key_of, order, same_key, at, digest_at, held}
use Rattle.share_store.proofs.KeyLaws.{order_total}
use Rattle.share_store.proofs.ShelfLaws.{at_with, held_told}
use Rattle.server_core.specs.Buckets.{same_id}

is_eq-nat : (m n : ℕ) → is_eq (nat_cmp m n) ≡ nat_eq m n
is_eq-nat m n = grind (arith, nat_tests)

is_eq-then : (o p : Ordering) → is_eq (ordering_then o p) ≡ (is_eq o && is_eq p)
is_eq-then Less p = refl
is_eq-then Equal p = refl
is_eq-then Greater p = refl

-- shares are the same where their positions are
pub same_agrees : (a b : ShareId) → same_key (key_of a) (key_of b) ≡ same_id a b
same_agrees a b =
    is_eq-then (slice_cmp nat_cmp a.index b.index) (nat_cmp a.share b.share)
    ∙ ap (λ (x : Bool). x && is_eq (nat_cmp a.share b.share)) (is_eq-slice_cmp a.index b.index)
    ∙ ap (λ (x : Bool). bytes_eq a.index b.index && x) (is_eq-nat a.share b.share)

-- what was put at a position is found there
pub found_new : (position : ShareKey) (c : ClosedShare) (cs : List (ShareKey × ClosedShare)) → at position (insert_entry order cs position c) ≡ Some c
found_new position c cs = at_with position position c cs ∙ ap (λ o. cond (is_eq o) (Some c) (at position cs)) (tied_itself order_total position)

-- and nothing else changes
pub found_other : (other position : ShareKey) (c : ClosedShare) (cs : List (ShareKey × ClosedShare)) → same_key other position ≡ false → at other (insert_entry order cs position c) ≡ at other cs
found_other other position c cs apart = at_with other position c cs ∙ ap (λ (t : Bool). cond t (Some c) (at other cs)) apart

-- what is listed is closed, with that digest
pub listed : (index : List ℕ) (cs : List (ShareKey × ClosedShare)) → IsStrictlySortedBy order (keys_of cs) → All (λ (h : HeldShare). digest_at (record { index = index; share = h.share }) cs ≡ Some h.digest) (held index cs)
listed index cs sorted = All-from_recursion (λ (h : HeldShare). digest_at (record { index = index; share = h.share }) cs ≡ Some h.digest) (held index cs) (held_told index cs sorted)
