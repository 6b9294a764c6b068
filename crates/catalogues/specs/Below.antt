-- Names of files below a folder.
use Rattle.std.specs.Prelude.{◌≡◌, ◌≢◌, ◌==◌, ◌⊎◌, ◌<◌, ◌≤◌, ℕ, List, ◌++◌, codes, length}
use Rattle.std.specs.List.{AllByRecursion, flat_map, slice_split}

-- what may be the name of a file or a folder in a folder
pub record IsPart (part : List ℕ) : Type 0 where
  pub some : 0 < length part
  pub short : length part ≤ 255
  pub not_dot : part ≢ codes "."
  pub not_dots : part ≢ codes ".."
  pub no_nul : AllByRecursion (λ c. c ≢ 0) part
  pub no_slash : AllByRecursion (λ c. c ≢ 47) part

-- the parts of a name between its slashes
abbrev pub parts_of : List ℕ → List (List ℕ)
parts_of name = slice_split (λ c. c == 47) name

-- each part of a name may stand in a folder
abbrev pub IsBelow : List ℕ → Type 0
IsBelow name = AllByRecursion IsPart (parts_of name)

-- a slash, or a dot with a slash behind it
abbrev pub IsLeadingPiece : List ℕ → Type 0
IsLeadingPiece piece = (piece ≡ codes "/") ⊎ (piece ≡ codes "./")

-- what is taken off the front of a name: such pieces
abbrev pub IsLeading : List ℕ → Type 0
IsLeading front = (pieces : List (List ℕ)) × AllByRecursion IsLeadingPiece pieces
    × (front ≡ flat_map (λ p. p) pieces)

-- a name is one of a file below a folder, once its front is taken off
pub record IsBelowBehind (name front rest : List ℕ) : Type 0 where
  pub is : name ≡ front ++ rest
  pub leading : IsLeading front
  pub below : IsBelow rest
