use Rattle.std.proofs.Common.{◌≡◌, ◌*◌, ◌<◌, ℕ, [], drop, get_or, take}
use Rattle.sha2_lanes.proofs.side_by_side.words_of.Given as goal

abbrev pub invariant-loop-j : goal.invariant-loop-j
invariant-loop-j l = (k : ℕ) → k < l.j → take 8 (drop (8 * k) l.hashes) ≡ get_or l.rows k []
