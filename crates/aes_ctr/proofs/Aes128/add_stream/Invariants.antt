use Rattle.std.proofs.Common.{◌≡◌, ◌*◌, ◌/◌, ◌%◌, ◌<◌, ◌≤◌, ℕ, [], bit_xor, get_or}
use Rattle.aes_ctr.proofs.Aes128.add_stream.Given as goal

abbrev pub invariant-loop-t : goal.invariant-loop-t
invariant-loop-t l = record {
  added : (k : ℕ) → k < 32 * l.t → get_or l.piece k 0 ≡ bit_xor (get_or l.fn.piece k 0) (get_or (get_or l.vectors (k / 32) []) (k % 32) 0);
  kept : (k : ℕ) → 32 * l.t ≤ k → get_or l.piece k 0 ≡ get_or l.fn.piece k 0;
}
