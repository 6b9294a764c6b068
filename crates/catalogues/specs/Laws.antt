-- Laws of lines and catalogues.
use Rattle.std.specs.Prelude.{◌≡◌, ℕ, List, ◌++◌}
use Rattle.cap_text.specs.declared.cap.Cap.{Cap}
use Rattle.catalogues.specs.declared.head.Head.{Head}
use Rattle.catalogues.specs.Lines.{IsLine}
use Rattle.catalogues.specs.Catalogues.{BeginsWithLine, Entry, IsCatalogue}

-- what is written is read back, whatever follows it
abbrev pub LinesAreRead : Type 0
LinesAreRead = (text : List ℕ) (cap : Cap) (name rest : List ℕ) → IsLine text cap name
    → BeginsWithLine (text ++ rest) cap name rest

-- no line begins another
abbrev pub LinesAreOne : Type 0
LinesAreOne = (text : List ℕ) (a b : Cap) (m n x y : List ℕ) → BeginsWithLine text a m x
    → BeginsWithLine text b n y → (a ≡ b) × (m ≡ n) × (x ≡ y)

-- a text is one catalogue
abbrev pub CataloguesAreOne : Type 0
CataloguesAreOne = (text : List ℕ) (g h : Head) (a b : List Entry) → IsCatalogue text g a
    → IsCatalogue text h b → (g ≡ h) × (a ≡ b)
