-- The numbers and names of the refusals.
use Rattle.std.specs.Prelude.{⊤, ℕ, List, ◌++◌, codes, decimal}
use Rattle.catalogues.specs.declared.error.CatalogueError.{CatalogueError}
use Rattle.catalogues.specs.declared.error.CatalogueError.TheVariants.{OutOfMemory, NotACatalogue}
use Rattle.catalogues.specs.declared.error.CatalogueError.TheVariants.{NotALine, BadName}

-- the number of a refusal
abbrev pub number_of : CatalogueError → ℕ
number_of OutOfMemory = 1
number_of NotACatalogue = 110
number_of (NotALine line) = 111
number_of BadName = 112

-- its name, with the number of the line
abbrev pub name_of : CatalogueError → List ℕ
name_of OutOfMemory = codes "OutOfMemory"
name_of NotACatalogue = codes "NotACatalogue"
name_of (NotALine line) = codes "NotALine " ++ decimal line
name_of BadName = codes "BadName"

-- a refusal of a text that is no catalogue
abbrev pub IsReadingFault : CatalogueError → Type 0
IsReadingFault NotACatalogue = ⊤
IsReadingFault (NotALine line) = ⊤
IsReadingFault OutOfMemory = ⊥
IsReadingFault BadName = ⊥
