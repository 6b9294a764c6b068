use Rattle.std.proofs.Common.{◌≡◌, ℕ, ◌<◌, Contains, Some, false}
use Rattle.std.specs.Prelude.{remove, slice_get, slice_index}
use Rattle.share_source.specs.Candidates.{picked_numbers}
use Rattle.share_source.proofs.choosing.find_spare.Given as goal

abbrev pub invariant-loop-position : goal.invariant-loop-position
invariant-loop-position g l =
    (p : ℕ) → p < l.position → slice_get l.candidates.struck p ≡ Some false
    → Contains (picked_numbers l.candidates.numbers (remove l.positions l.index)) (slice_index l.candidates.numbers p)
