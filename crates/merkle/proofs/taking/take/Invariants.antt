use Rattle.std.proofs.Common.{◌≡◌, ◌+◌, ◌^◌, ◌<◌, ◌≤◌, ℕ, List, Some, nat_eq, slice_get}
use Rattle.std.specs.HashMap.{get}
use Rattle.merkle.specs.Partial.{padding}
use Rattle.merkle.specs.Taking.{IsTold}
use Rattle.merkle.proofs.PartialLemmas.{IsUnderway}
use Rattle.merkle.proofs.RowLemmas.{IsRow}
use Rattle.merkle.proofs.taking.take.Given as goal

abbrev pub invariant-loop-offer : goal.invariant-loop-offer
invariant-loop-offer l = record {
  under : IsUnderway l.padded (padding l.padded) (get nat_eq l.fn.nodes) l.offers (get nat_eq l.nodes) l.added.items;
  taken : (k number : ℕ) (hash : List ℕ) → k < l.offer-index → slice_get l.offers k ≡ Some (number, hash) → get nat_eq l.nodes number ≡ Some hash;
}

abbrev pub invariant-loop-row : goal.invariant-loop-row
invariant-loop-row l = record {
  low : l.row ≤ l.height;
  under : IsUnderway l.padded (padding l.padded) (get nat_eq l.fn.nodes) l.offers (get nat_eq l.nodes) l.added.items;
  taken : (k number : ℕ) (hash : List ℕ) → slice_get l.offers k ≡ Some (number, hash) → get nat_eq l.nodes number ≡ Some hash;
  done : (number : ℕ) (hash : List ℕ) → 2 ^ (l.row + 1) ≤ number + 1 → 0 < number → get nat_eq l.nodes number ≡ Some hash
      → IsTold (padding l.padded) (get nat_eq l.nodes) number;
}

abbrev pub decreases-loop-row : goal.decreases-loop-row
decreases-loop-row l = l.row

abbrev pub invariant-loop-i : goal.invariant-loop-i
invariant-loop-i l =
    IsRow l.padded (padding l.padded) (get nat_eq l.fn.nodes) l.offers l.row l.listed l.i (get nat_eq l.nodes) l.added.items
