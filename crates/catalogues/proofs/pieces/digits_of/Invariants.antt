use Rattle.std.proofs.Common.{ℕ, ◌<◌, get_or}
use Rattle.catalogues.specs.Pieces.{IsDigit}
use Rattle.catalogues.proofs.pieces.digits_of.Given as goal

abbrev pub invariant-loop-i : goal.invariant-loop-i
invariant-loop-i l = (k : ℕ) → k < l.i → IsDigit (get_or l.text k 0)
