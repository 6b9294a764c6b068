use Rattle.std.proofs.Common.{◌≡◌, ℕ, ◌<◌}
use Rattle.grid_marks.specs.Marks.{line}
use Rattle.grid_marks.proofs.mark.Mark.read.Given as goal

-- no lower number gives the text
abbrev pub invariant-loop-number : goal.invariant-loop-number
invariant-loop-number l = (n : ℕ) → n < l.number → l.text ≡ line l.identity l.kind n → ⊥
