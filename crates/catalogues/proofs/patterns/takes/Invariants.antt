use Rattle.std.proofs.Common.{◌≡◌, ◌+◌, ℕ, List, ◌++◌, length}
use Rattle.catalogues.specs.Rows.{TellsAll}
use Rattle.catalogues.proofs.patterns.takes.Given as goal

-- the end of the name that was gone through
abbrev pub invariant-loop-byte : goal.invariant-loop-byte
invariant-loop-byte l = (end : List ℕ) × (l.fn.name ≡ l.left ++ end) × (length l.row.items ≡ length l.fn.pattern + 1) × TellsAll l.row.items end l.fn.pattern

abbrev pub decreases-loop-byte : goal.decreases-loop-byte
decreases-loop-byte l = length l.left
