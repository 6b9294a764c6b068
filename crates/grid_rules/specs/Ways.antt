-- The ways of a grid.
use Rattle.std.specs.Prelude.{ℕ, List, ◌++◌, codes, decimal}
use Rattle.file_encoding.specs.Params.{AreChosen, UploadParameters}

-- numbers that files may be put by
abbrev pub AreWays : UploadParameters → Type 0
AreWays w = AreChosen w.needed w.happy w.total w.max_segment

-- one line: how many shares are needed, how many there are, on how many servers they have to be,
-- and the greatest length of a segment
abbrev pub ways_text : UploadParameters → List ℕ
ways_text w =
    codes "ways k " ++ (decimal w.needed
    ++ (codes " n " ++ (decimal w.total
    ++ (codes " happy " ++ (decimal w.happy
    ++ (codes " segment " ++ (decimal w.max_segment ++ codes "\n")))))))

-- ---- words of private clauses

-- two numbers, each behind a word, and what follows them
abbrev pub two_then : List ℕ → List ℕ → ℕ → ℕ → List ℕ → List ℕ
two_then first second m n rest = first ++ (decimal m ++ (second ++ (decimal n ++ rest)))
