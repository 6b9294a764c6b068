use Rattle.std.proofs.Common.{◌≡◌, ℕ, [], ◌<◌, length, get_or}
use Rattle.aes_ctr.specs.Differences.{IsDifference}
use Rattle.aes_ctr.proofs.Aes128.differences.Given as goal

abbrev pub invariant-loop-g : goal.invariant-loop-g
invariant-loop-g l = record {
  full : length l.table ≡ 16;
  made : (k : ℕ) → k < l.g → IsDifference l.self k (get_or l.table k []);
}
