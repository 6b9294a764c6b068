-- How a get of one entry ended, for private clauses.
use Rattle.std.specs.Prelude.{◌≡◌, ◌⊎◌, ℕ, Bool, List, ◌++◌, Option, None, Some, Ok, codes}
use Rattle.std.specs.Prelude.{is_some, true, unwrap_or}
use Rattle.cap_text.specs.declared.cap.Cap.{Cap}
use Rattle.grid_gets.specs.Files.{FileAct, IsFileOf, MayBeFileOf}
use Rattle.grid_gets.specs.Gets.{whole_range}
use Rattle.grid_lists.specs.Gets.{Came, CameTo, IsDoneFor, came_status, is_chosen}
use Rattle.grid_servers.specs.Grids.{GridCalls}
use Rattle.grid_words.specs.declared.catalogue_words.GetFilesWords.{GetFilesWords}

-- the path of a name below the folder of these words
abbrev pub path_of : GetFilesWords → List ℕ → List ℕ
path_of words name = words.into.now ++ (codes "/" ++ name)

-- The file of a cap was written under a name below the folder.
pub record IsWritten {S : Type 0} (calls : GridCalls S) (words : GetFilesWords) (cap : Cap)
    (name : List ℕ) (old new : Option (List FileAct)) : Type 0 where
  pub kept : Bool
  pub file : IsFileOf calls words.grid.now kept cap (whole_range cap) (path_of words name) (Ok tt)
      old new

-- Nothing was, or it may have been.
abbrev pub MayBeWritten : {S : Type 0} → GridCalls S → GetFilesWords → Cap → List ℕ
    → Option (List FileAct) → Option (List FileAct) → Type 0
MayBeWritten calls words cap name old new = (new ≡ old) ⊎ ((kept : Bool)
    × MayBeFileOf calls words.grid.now kept cap (whole_range cap) (path_of words name) old new)

-- this became of a cap and a name that was chosen, by its status
pub record CameOfChosen {S : Type 0} (calls : GridCalls S) (words : GetFilesWords) (cap : Cap)
    (name : List ℕ) (old new : Option (List FileAct)) (status : ℕ) : Type 0 where
  pub came : Came
  pub chosen : is_chosen came ≡ true
  pub is : IsDoneFor calls words (record { cap = cap; name = name }) came old new
  pub status_is : status ≡ came_status came

-- the same of one that may not have been chosen: then there is no status
pub record CameOf {S : Type 0} (calls : GridCalls S) (words : GetFilesWords) (cap : Cap)
    (name : List ℕ) (old new : Option (List FileAct)) (status : Option ℕ) : Type 0 where
  pub came : Came
  pub is : CameTo calls words (record { cap = cap; name = name }) came old new
  pub chosen : is_some status ≡ is_chosen came
  pub status_is : unwrap_or status 0 ≡ came_status came
