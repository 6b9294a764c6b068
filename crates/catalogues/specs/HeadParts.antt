-- The parts of a first line, and what follows them.
use Rattle.std.specs.Prelude.{ℕ, List, ◌++◌, codes, decimal}
use Rattle.catalogues.specs.declared.head.Moment.{Moment}
use Rattle.catalogues.specs.declared.head.Numbers.{Numbers}
use Rattle.catalogues.specs.Heads.{nine_digits}

-- the beginning, up to the moment
abbrev pub moment_then : Moment → List ℕ → List ℕ
moment_then m rest =
    codes "# grid catalogue 1 begun " ++ (decimal m.seconds
    ++ (codes "." ++ (nine_digits m.nanoseconds ++ rest)))

-- the numbers
abbrev pub numbers_then : Numbers → List ℕ → List ℕ
numbers_then x rest =
    codes " k " ++ (decimal x.needed
    ++ (codes " n " ++ (decimal x.total
    ++ (codes " segment " ++ (decimal x.segment_size ++ rest)))))
