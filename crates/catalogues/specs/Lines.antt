-- The lines of a catalogue.
use Rattle.std.specs.Prelude.{◌≡◌, ℕ, List, [], ◌∷◌, ◌++◌, codes}
use Rattle.cap_text.specs.declared.cap.Cap.{Cap}
use Rattle.cap_text.specs.CapText.{IsCap, cap_text}
use Rattle.catalogues.specs.Names.{IsName, escape_mark, written}

-- words, two blanks and a name
abbrev pub words_with : List ℕ → List ℕ → List ℕ
words_with words name = escape_mark name ++ (words ++ (codes "  " ++ written name))

-- a line that tells words of a file
abbrev pub named_text : List ℕ → List ℕ → List ℕ
named_text words name = words_with words name ++ 10 ∷ []

-- a line without its end: the cap, two blanks and the name
abbrev pub words_text : Cap → List ℕ → List ℕ
words_text cap name = words_with (cap_text cap) name

-- a line
abbrev pub line_text : Cap → List ℕ → List ℕ
line_text cap name = words_text cap name ++ 10 ∷ []

-- this is the line of a cap and a name
pub record IsLine (text : List ℕ) (cap : Cap) (name : List ℕ) : Type 0 where
  pub is_cap : IsCap cap
  pub is_name : IsName name
  pub is : text ≡ line_text cap name

-- the same without its end
pub record IsWords (text : List ℕ) (cap : Cap) (name : List ℕ) : Type 0 where
  pub is_cap : IsCap cap
  pub is_name : IsName name
  pub is : text ≡ words_text cap name
