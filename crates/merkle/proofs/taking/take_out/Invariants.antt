use Rattle.std.proofs.Common.{◌≡◌, ◌<◌, ◌⊎◌, ℕ, None, nat_eq, slice_index_or}
use Rattle.std.specs.HashMap.{get}
use Rattle.merkle.specs.Taking.{IsListed}
use Rattle.merkle.proofs.taking.take_out.Given as goal

abbrev pub invariant-loop-number : goal.invariant-loop-number
invariant-loop-number l = record {
  out : (k : ℕ) → k < l.number-index → get nat_eq l.nodes (slice_index_or l.numbers k 0) ≡ None;
  rest : (number : ℕ) → (get nat_eq l.nodes number ≡ get nat_eq l.initial.nodes number) ⊎ IsListed l.numbers number;
}
