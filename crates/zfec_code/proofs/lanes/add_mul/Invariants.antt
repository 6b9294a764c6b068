use Rattle.std.proofs.Common.{◌≡◌, ℕ, ◌*◌, ◌<◌, ◌≤◌, get_or, bit_xor}
use Rattle.zfec_code.specs.Field.{product}
use Rattle.zfec_code.proofs.lanes.add_mul.Given as goal

abbrev pub invariant-loop-i : goal.invariant-loop-i
invariant-loop-i l = record {
  written : (k : ℕ) → k < l.i * 32 → get_or l.dst k 0 ≡ bit_xor (get_or l.initial.dst k 0) (product l.c (get_or l.src k 0));
  kept : (k : ℕ) → l.i * 32 ≤ k → get_or l.dst k 0 ≡ get_or l.initial.dst k 0;
}

abbrev pub invariant-loop-i-2 : goal.invariant-loop-i-2
invariant-loop-i-2 l = record {
  written : (k : ℕ) → k < l.i → get_or l.dst k 0 ≡ bit_xor (get_or l.fn.dst k 0) (product l.c (get_or l.src k 0));
  kept : (k : ℕ) → l.i ≤ k → get_or l.dst k 0 ≡ get_or l.fn.dst k 0;
}
