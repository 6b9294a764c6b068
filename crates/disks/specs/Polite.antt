-- That what a program of this project does is what others reckon with.
use Rattle.std.specs.Prelude.{◌≡◌, ◌≢◌, ◌⊎◌, ℕ, List, Bool, Some, true, false}
use Rattle.disks.specs.Names.{Name, Relied, IsRelied}
use Rattle.disks.specs.Folder.{Folder, FileState, HasBytes, IsOwn}
use Rattle.disks.specs.Steps.{Changes, Creates, Links, MaySyncFolder, Removes, Renames}
use Rattle.disks.specs.Steps.{SyncsFile, SyncsFolder}
use Rattle.disks.specs.Others.{Others}

-- the folder as a program sees it that has these names for its own
abbrev pub seen_by : (Name → Bool) → Folder → Folder
seen_by own s = record { file = s.file; found = s.found; left = s.left; own = own }

-- Another program's names do not stand for this file.
abbrev pub IsForeign : (Name → Bool) → Folder → ℕ → Type 0
IsForeign own s i = (name : Name) → own name ≡ true → s.found name ≢ Some i

-- Nor are they one of these two.
pub record AreApart (own : Name → Bool) (s : Folder) (from to : Name) (i : ℕ) : Type 0 where
  pub not_from : own from ≡ false
  pub not_to : own to ≡ false
  pub foreign : IsForeign own s i

-- What stands under the name is not relied on there.
abbrev pub IsLoose : Relied → Folder → Name → Type 0
IsLoose relied s name =
    (kept : List ℕ) → IsRelied relied name kept → ¬ HasBytes s kept (s.found name)

-- What stands under the name, and is relied on, has these bytes.
abbrev pub HasNoMore : Relied → Folder → Name → List ℕ → Type 0
HasNoMore relied s name bytes =
    (kept : List ℕ) → IsRelied relied name kept → HasBytes s kept (s.found name) → kept ≡ bytes

-- ---- the laws: each is what others may do to every other program

-- A rename of a file of one's own, whose bytes are on the disk, to a name under which nothing
-- stands that is relied on and has other bytes.
abbrev pub RenamesArePolite : Type 0
RenamesArePolite = (relied : Relied) (from to : Name) (s t : Folder) (i : ℕ) (bytes : List ℕ)
    (own : Name → Bool) → Renames from to s t
    → IsOwn s from i (record { bytes = bytes; is_synced = true; is_finished = false })
    → AreApart own s from to i → HasNoMore relied s to bytes
    → Others relied (seen_by own s) (seen_by own t)

-- A rename of what is not relied on to a name under which nothing stands that is.
abbrev pub AsidesArePolite : Type 0
AsidesArePolite = (relied : Relied) (from to : Name) (s t : Folder) (i : ℕ) (own : Name → Bool)
    → Renames from to s t → s.found from ≡ Some i → AreApart own s from to i
    → IsLoose relied s from → IsLoose relied s to
    → Others relied (seen_by own s) (seen_by own t)

-- A rename of a whole file, whose bytes are on the disk, back from a name where it is not relied
-- on: what is relied on under the other has these bytes.
abbrev pub ReturnsArePolite : Type 0
ReturnsArePolite = (relied : Relied) (from to : Name) (s t : Folder) (i : ℕ) (bytes : List ℕ)
    (own : Name → Bool) → Renames from to s t → s.found from ≡ Some i
    → s.file i ≡ record { bytes = bytes; is_synced = true; is_finished = true }
    → AreApart own s from to i → IsLoose relied s from → HasNoMore relied s to bytes
    → Others relied (seen_by own s) (seen_by own t)

-- A further name for a file, where nothing stands.
abbrev pub LinksArePolite : Type 0
LinksArePolite = (relied : Relied) (from to : Name) (s t : Folder) (i : ℕ) (own : Name → Bool)
    → Links from to s t → s.found from ≡ Some i → AreApart own s from to i
    → Others relied (seen_by own s) (seen_by own t)

-- A file that is made under a name which is none of another program's own.
abbrev pub MakesArePolite : Type 0
MakesArePolite = (relied : Relied) (name : Name) (i : ℕ) (s t : Folder) (own : Name → Bool)
    → Creates name i s t → own name ≡ false → Others relied (seen_by own s) (seen_by own t)

-- A removal of such a name, where what stands there is not relied on.
abbrev pub RemovalsArePolite : Type 0
RemovalsArePolite = (relied : Relied) (name : Name) (s t : Folder) (own : Name → Bool)
    → Removes name s t → own name ≡ false → IsLoose relied s name
    → Others relied (seen_by own s) (seen_by own t)

-- A change of a file that is not finished, as where bytes are added to it.
abbrev pub WritesArePolite : Type 0
WritesArePolite = (relied : Relied) (i : ℕ) (change : FileState → FileState) (s t : Folder)
    (own : Name → Bool) → Changes i change s t → (s.file i).is_finished ≡ false
    → IsForeign own s i → Others relied (seen_by own s) (seen_by own t)

-- That the bytes of a file are put on the disk.
abbrev pub FileSyncsArePolite : Type 0
FileSyncsArePolite = (relied : Relied) (i : ℕ) (s t : Folder) (own : Name → Bool)
    → SyncsFile i s t → IsForeign own s i → Others relied (seen_by own s) (seen_by own t)

-- That the names are put on the disk, or some of them.
abbrev pub SyncsArePolite : Type 0
SyncsArePolite = (relied : Relied) (s t : Folder) (own : Name → Bool)
    → SyncsFolder s t ⊎ MaySyncFolder s t → Others relied (seen_by own s) (seen_by own t)

-- So are several such steps, one after another.
abbrev pub OthersGoOn : Type 0
OthersGoOn = (relied : Relied) (s t u : Folder) → Others relied s t → Others relied t u
    → Others relied s u
