use Rattle.std.proofs.Common.{◌≡◌, ℕ, ◌<◌, get_or}
use Rattle.zfec_code.proofs.decoding.has_repeat.Given as goal

abbrev pub invariant-loop-i : goal.invariant-loop-i
invariant-loop-i l = (p q : ℕ) → p < l.i → q < p → get_or l.numbers p 0 ≡ get_or l.numbers q 0 → ⊥

abbrev pub invariant-loop-j : goal.invariant-loop-j
invariant-loop-j l = (q : ℕ) → q < l.j → get_or l.numbers l.i 0 ≡ get_or l.numbers q 0 → ⊥
