-- Where the bytes of a `get` are written, by what stands at the path that the user named.
use Rattle.std.specs.Prelude.{◌≡◌, ◌==◌, ◌++◌, ℕ, List, Option, None, Some, codes, decimal}
use Rattle.std.specs.Prelude.{if◌then◌else◌, length, nat_le, nat_lt}
use Rattle.std.specs.Fs.{IsDir, IsFile, file_type}
use Rattle.std.specs.Path.{path_parent}
use Rattle.std.specs.declared.fs.attrs.Metadata.{Metadata}
use Rattle.std.specs.declared.io.ErrorKind.TheVariants.{IsADirectory, NotFound}
use Rattle.grid_gets.specs.declared.target.Found.{Found}
use Rattle.grid_gets.specs.declared.target.Found.TheVariants as found
use Rattle.grid_gets.specs.declared.target.Target.{Target}
use Rattle.grid_gets.specs.declared.target.Target.TheVariants as targets

-- what the system says of a path is this
pub record IsFound (metadata : Metadata) (what : Found) : Type 0 where
  pub file : IsFile (file_type metadata) → what ≡ found.File
  pub folder : IsDir (file_type metadata) → what ≡ found.Folder
  pub other : (IsFile (file_type metadata) → ⊥) → (IsDir (file_type metadata) → ⊥)
      → what ≡ found.Other

-- what is done with a path that is not empty
abbrev pub target_of_found : Found → Target
target_of_found found.Nothing = targets.Beside
target_of_found found.File = targets.Beside
target_of_found found.Folder = targets.Refused IsADirectory
target_of_found found.Other = targets.Straight

-- The empty path is no name of a file.
abbrev pub target_of : List ℕ → Found → Target
target_of path what =
    if length path == 0 then targets.Refused NotFound else target_of_found what

-- the folder before a path's last name, or the one that a path of one name is read from
abbrev pub folder_or_here : Option (List ℕ) → List ℕ
folder_or_here None = codes "."
folder_or_here (Some folder) = if length folder == 0 then codes "." else folder

abbrev pub folder_of : List ℕ → List ℕ
folder_of path = folder_or_here (path_parent path)

-- File systems take names of at most 255 bytes. One of no more than this has room for what a file
-- beside it has behind its name, `.part.99` at most.
abbrev pub most_own : ℕ
most_own = 247

-- what the name of a file beside one of this name begins with
abbrev pub stem : List ℕ → List ℕ
stem name = if nat_le (length name) most_own then name else codes "grid-get"

-- the name of the file beside one of a name that is tried first, second and so on, from 1
abbrev pub part_name : List ℕ → ℕ → List ℕ
part_name name turn = if nat_lt turn 2 then stem name ++ codes ".part"
    else stem name ++ codes ".part." ++ decimal turn
