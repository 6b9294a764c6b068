-- Catalogues.
use Rattle.std.specs.Prelude.{◌≡◌, ℕ, List, ◌++◌}
use Rattle.std.specs.List.{AllByRecursion, flat_map}
use Rattle.cap_text.specs.declared.cap.Cap.{Cap}
use Rattle.cap_text.specs.CapText.{IsCap}
use Rattle.catalogues.specs.declared.head.Head.{Head}
use Rattle.catalogues.specs.Names.{IsName}
use Rattle.catalogues.specs.Lines.{line_text}
use Rattle.catalogues.specs.Heads.{IsHead, first_then}

-- a text begins with the first line of a catalogue, and goes on so
pub record BeginsWithHead (text : List ℕ) (head : Head) (rest : List ℕ) : Type 0 where
  pub is_head : IsHead head
  pub is : text ≡ first_then head rest

-- a text begins with the line of a cap and a name, and goes on so
pub record BeginsWithLine (text : List ℕ) (cap : Cap) (name rest : List ℕ) : Type 0 where
  pub is_cap : IsCap cap
  pub is_name : IsName name
  pub is : text ≡ line_text cap name ++ rest

-- it begins with no line
abbrev pub HasNoHead : List ℕ → Type 0
HasNoHead text = (head : Head) (rest : List ℕ) → ¬ (BeginsWithHead text head rest)

abbrev pub HasNoLine : List ℕ → Type 0
HasNoLine text = (cap : Cap) (name rest : List ℕ) → ¬ (BeginsWithLine text cap name rest)

-- the cap and the name of a file
pub record Entry : Type 0 where
  pub cap : Cap
  pub name : List ℕ

-- its line
abbrev pub entry_text : Entry → List ℕ
entry_text e = line_text e.cap e.name

abbrev pub IsEntry : Entry → Type 0
IsEntry e = IsCap e.cap × IsName e.name

-- a text is the catalogue of these files, line by line
pub record IsCatalogue (text : List ℕ) (head : Head) (entries : List Entry) : Type 0 where
  pub is_head : IsHead head
  pub are : AllByRecursion IsEntry entries
  pub is : text ≡ first_then head (flat_map entry_text entries)

-- what is left of a catalogue that is read, and how many of its lines were read
pub record Reading : Type 0 where
  pub head : Head
  pub left : List ℕ
  pub lines : ℕ
