-- Files that tell where servers are served.
use Rattle.std.specs.Prelude.{◌≡◌, ◌≤◌, ◌<◌, ◌⊎◌, ℕ, List, [], ◌∷◌, ◌++◌, All}
use Rattle.grid_marks.specs.declared.addresses.AddressFile.{AddressFile}

-- a text is this line, with a line feed behind it or without
abbrev pub HasLine : List ℕ → List ℕ → Type 0
HasLine line text = (text ≡ line) ⊎ (text ≡ line ++ (10 ∷ []))

-- each file is that of a server from the first number on, and below the last one
abbrev pub AreOf : ℕ → ℕ → List AddressFile → Type 0
AreOf first last files = All (λ file. (first ≤ file.server) × (file.server < last)) files
