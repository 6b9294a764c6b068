use Rattle.std.proofs.Common.{◌≡◌, ◌+◌, ℕ, List, [], ◌++◌, length}
use Rattle.catalogues.specs.Patterns.{taken}
use Rattle.catalogues.specs.Rows.{TellsAll}
use Rattle.catalogues.proofs.patterns.last_row.Given as goal

-- the end of the pattern that was gone through
abbrev pub invariant-loop-x : goal.invariant-loop-x
invariant-loop-x l = (end : List ℕ) × (l.fn.pattern ≡ l.left ++ end) × (length l.row.items ≡ length end + 1) × (l.stars ≡ taken [] end) × TellsAll l.row.items [] end

abbrev pub decreases-loop-x : goal.decreases-loop-x
decreases-loop-x l = length l.left
