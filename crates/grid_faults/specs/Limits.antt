-- The ranges of a command's numbers.
use Rattle.std.specs.Prelude.{ℕ, List, ◌++◌, ◌≤◌, codes, decimal}
use Rattle.grid_faults.specs.declared.limits.Limit.{Limit}

-- the number is in its range
abbrev pub IsKept : Limit → Type 0
IsKept l = (l.least ≤ l.value) × (l.value ≤ l.most)

-- what is told of one that is not
abbrev pub limit_line : Limit → List ℕ
limit_line l = l.option.now ++ (codes " is " ++ (decimal l.value ++ (codes ", and may be "
    ++ (decimal l.least ++ (codes " to " ++ (decimal l.most ++ codes "\n"))))))
