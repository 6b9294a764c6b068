use Rattle.std.proofs.Common.{ℕ, ◌<◌, [], get_or, map}
use Rattle.zfec_code.proofs.decoding.know_bytes.Given as goal

abbrev pub invariant-loop-bytes : goal.invariant-loop-bytes
invariant-loop-bytes l = (m : ℕ) → m < l.bytes-index → (t : ℕ) → get_or (get_or (map (λ s. s.1.now) l.shares) m []) t 0 < 256
