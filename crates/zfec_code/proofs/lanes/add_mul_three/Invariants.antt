use Rattle.std.proofs.Common.{ℕ, ◌*◌, ◌<◌, ◌≤◌, ◌≡◌, get_or}
use Rattle.zfec_code.proofs.LaneLemmas.{plus_three}
use Rattle.zfec_code.proofs.lanes.add_mul_three.Given as goal

abbrev pub invariant-loop-i : goal.invariant-loop-i
invariant-loop-i l = record {
  written : (k : ℕ) → k < l.i * 32 → get_or l.dst k 0 ≡ plus_three (get_or l.initial.dst k 0) l.a l.b l.c l.x l.y l.z k;
  kept : (k : ℕ) → l.i * 32 ≤ k → get_or l.dst k 0 ≡ get_or l.initial.dst k 0;
}

abbrev pub invariant-loop-i-2 : goal.invariant-loop-i-2
invariant-loop-i-2 l = record {
  written : (k : ℕ) → k < l.i → get_or l.dst k 0 ≡ plus_three (get_or l.fn.dst k 0) l.a l.b l.c l.x l.y l.z k;
  kept : (k : ℕ) → l.i ≤ k → get_or l.dst k 0 ≡ get_or l.fn.dst k 0;
}
