use Rattle.std.proofs.Common.{◌≡◌, ℕ, ◌*◌, ◌%◌, ◌<◌, length, get_or}
use Rattle.zfec_code.specs.Field.{product}
use Rattle.zfec_code.proofs.lanes.multiples.Given as goal

abbrev pub invariant-loop-i : goal.invariant-loop-i
invariant-loop-i l = record {
  size : length l.table ≡ 32;
  each : (k : ℕ) → k < l.i → get_or l.table k 0 ≡ product l.c (k % 16 * l.step);
}
