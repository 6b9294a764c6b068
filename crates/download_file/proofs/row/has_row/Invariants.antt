use Rattle.std.proofs.Common.{◌+◌, ◌<◌, ℕ}
use Rattle.download_file.specs.Steps.{HasAll}
use Rattle.download_file.proofs.row.has_row.Given as goal

abbrev pub invariant-loop-i : goal.invariant-loop-i
invariant-loop-i l = (j : ℕ) → j < l.i → HasAll l.handout l.readers l.live (l.number + j)
