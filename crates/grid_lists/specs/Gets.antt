-- What a get of the files of a catalogue does.
use Rattle.std.specs.Prelude.{◌≡◌, ◌⊎◌, ◌&&◌, ℕ, Bool, true, false, List, [], ◌∷◌, ◌++◌, Option, Ok}
use Rattle.std.specs.Prelude.{◌==◌, codes, if◌then◌else◌, length, map, not}
use Rattle.std.specs.List.{AllByRecursion, flat_map, list_any}
use Rattle.cap_text.specs.declared.cap.Cap.{Cap}
use Rattle.catalogues.specs.Below.{IsBelowBehind}
use Rattle.catalogues.specs.Catalogues.{BeginsWithHead, Entry, HasNoHead, HasNoLine, IsEntry}
use Rattle.catalogues.specs.Catalogues.{entry_text}
use Rattle.catalogues.specs.Patterns.{chooses}
use Rattle.catalogues.specs.declared.head.Head.{Head}
use Rattle.grid_faults.specs.Fault.{fault_status}
use Rattle.grid_faults.specs.declared.fault.Fault.{Fault}
use Rattle.grid_gets.specs.Files.{FileAct, IsFileOf, MayBeFileOf}
use Rattle.grid_gets.specs.Gets.{whole_range}
use Rattle.grid_lists.specs.Statuses.{status_after, unread_status}
use Rattle.grid_servers.specs.Grids.{GridCalls}
use Rattle.grid_words.specs.declared.catalogue_words.GetFilesWords.{GetFilesWords}

-- ---- one file

-- a name leads to this path below a folder
pub record LeadsTo (folder name path : List ℕ) : Type 0 where
  pub front : List ℕ
  pub rest : List ℕ
  pub below : IsBelowBehind name front rest
  pub is : path ≡ folder ++ (codes "/" ++ rest)

-- A file was opened at the path to which the name of an entry leads, and ended as whole, with all
-- bytes of its cap's file.
pub record IsRestored {S : Type 0} (calls : GridCalls S) (words : GetFilesWords) (entry : Entry)
    (old new : Option (List FileAct)) : Type 0 where
  pub path : List ℕ
  pub leads : LeadsTo words.into.now entry.name path
  pub kept : Bool
  pub file : IsFileOf calls words.grid.now kept entry.cap (whole_range entry.cap) path (Ok tt)
      old new

-- or none was, or one that was not ended as whole, or only with all of them
pub record MayBeRestored {S : Type 0} (calls : GridCalls S) (words : GetFilesWords)
    (entry : Entry) (old new : Option (List FileAct)) : Type 0 where
  pub path : List ℕ
  pub leads : LeadsTo words.into.now entry.name path
  pub kept : Bool
  pub file : MayBeFileOf calls words.grid.now kept entry.cap (whole_range entry.cap) path old new

-- what became of an entry: a file stands under its name, or it was refused; its name leads to no
-- file below a folder, or was not chosen
pub data Came : Type 0 where
  restored : Came
  refused : Fault → Came
  misnamed : Came
  passed : Came

abbrev pub came_status : Came → ℕ
came_status restored = 0
came_status (refused fault) = fault_status fault
came_status misnamed = unread_status
came_status passed = 0

abbrev pub is_chosen : Came → Bool
is_chosen restored = true
is_chosen (refused fault) = true
is_chosen misnamed = true
is_chosen passed = false

-- the patterns of these words
abbrev pub names_of : GetFilesWords → List (List ℕ)
names_of words = map (λ n. n.now) words.names.items

-- what was done with files of a name as it became of an entry
abbrev pub IsDoneFor : {S : Type 0} → GridCalls S → GetFilesWords → Entry → Came
    → Option (List FileAct) → Option (List FileAct) → Type 0
IsDoneFor calls words entry restored old new = IsRestored calls words entry old new
IsDoneFor calls words entry (refused fault) old new =
    (new ≡ old) ⊎ MayBeRestored calls words entry old new
IsDoneFor calls words entry misnamed old new =
    ((front rest : List ℕ) → ¬ (IsBelowBehind entry.name front rest)) × (new ≡ old)
IsDoneFor calls words entry passed old new = new ≡ old

-- this became of an entry, which was chosen or not
abbrev pub CameTo : {S : Type 0} → GridCalls S → GetFilesWords → Entry → Came
    → Option (List FileAct) → Option (List FileAct) → Type 0
CameTo calls words entry came old new = (is_chosen came ≡ chooses (names_of words) entry.name)
    × IsDoneFor calls words entry came old new

-- ---- the files of a catalogue

pub record Gotten : Type 0 where
  pub entry : Entry
  pub came : Came

-- Entries were gone through one after the other. The status is the first that is not 0.
abbrev pub AreGotten : {S : Type 0} → GridCalls S → GetFilesWords → List Gotten → ℕ → ℕ
    → Option (List FileAct) → Option (List FileAct) → Type 0
AreGotten calls words [] first status old new = (status ≡ first) × (new ≡ old)
AreGotten calls words (g ∷ gs) first status old new = (mid : Option (List FileAct))
    × CameTo calls words g.entry g.came old mid
    × AreGotten calls words gs (status_after first (came_status g.came)) status mid new

-- how a text ends behind its lines, by its status
abbrev pub EndsSo : List ℕ → ℕ → ℕ → Type 0
EndsSo left first status = ((left ≡ []) × (status ≡ first))
    ⊎ (HasNoLine left × (status ≡ status_after first unread_status))

-- names were asked for, and no entry was chosen
abbrev pub is_unfound : GetFilesWords → List Gotten → Bool
is_unfound words gotten = not (length words.names.items == 0)
    && not (list_any (λ g. is_chosen g.came) gotten)

-- The lines of a text were gone through, up to its end or to what is no line.
pub record AreGottenFrom {S : Type 0} (calls : GridCalls S) (words : GetFilesWords)
    (text : List ℕ) (status : ℕ) (old new : Option (List FileAct)) : Type 0 where
  pub gotten : List Gotten
  pub left : List ℕ
  pub lines : text ≡ flat_map (λ g. entry_text g.entry) gotten ++ left
  pub entries : AllByRecursion (λ g. IsEntry g.entry) gotten
  pub first : ℕ
  pub files : AreGotten calls words gotten 0 first old new
  pub second : ℕ
  pub ends : EndsSo left first second
  pub status_is : status ≡ status_after second
      (if is_unfound words gotten then unread_status else 0)

-- A text is no catalogue, and nothing was done; or its lines were gone through. Which text a
-- catalogue has is what the system says.
pub data IsGetFiles {S : Type 0} (calls : GridCalls S) (words : GetFilesWords) (status : ℕ)
    (old new : Option (List FileAct)) : Type 0 where
  unread : (text : List ℕ) → HasNoHead text → status ≡ unread_status → new ≡ old
      → IsGetFiles calls words status old new
  read : (text : List ℕ) → (head : Head) → (rest : List ℕ) → BeginsWithHead text head rest
      → AreGottenFrom calls words rest status old new
      → IsGetFiles calls words status old new
