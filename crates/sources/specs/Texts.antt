-- Sources over texts in memory.
use Rattle.std.specs.Prelude.{◌≡◌, ◌≢◌, ◌⊎◌, ℕ, ◌-◌, ◌≤◌, List, ◌++◌, length, take, drop}
use Rattle.sources.specs.Source.{IsFrom}

-- each read comes from one text, which stays
abbrev pub GivesText : List ℕ → ℕ → List ℕ → List ℕ → Type 0
GivesText text offset bytes after = IsFrom text offset bytes × (after ≡ text)

-- of the bytes that it hands out the first `left` come from `file`, later ones from `other`
pub record Changing : Type 0 where
  pub file : List ℕ
  pub other : List ℕ
  pub left : ℕ

-- each read comes from one of the two texts
abbrev pub GivesChanging : Changing → ℕ → List ℕ → Changing → Type 0
GivesChanging s offset bytes after =
    ((s.left ≢ 0) × IsFrom s.file offset bytes × (length bytes ≤ s.left)
    × (after ≡ record s { left = s.left - length bytes }))
    ⊎ ((s.left ≡ 0) × IsFrom s.other offset bytes × (after ≡ s))

-- what its next pass brings: the first `left` bytes of `file`, and `other` from there on
abbrev pub text_of : Changing → List ℕ
text_of s = take s.left s.file ++ drop s.left s.other

-- and the source after that pass
abbrev pub read_once : Changing → Changing
read_once s = record s { left = s.left - length s.file }
