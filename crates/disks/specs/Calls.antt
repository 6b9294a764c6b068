-- What a call of a disk gives.
use Rattle.std.specs.Prelude.{◌≡◌, ◌⊎◌, List, Result, Ok, Err}
use Rattle.disks.specs.declared.error.DiskError.{DiskError}
use Rattle.disks.specs.Names.{Relied}
use Rattle.disks.specs.Folder.{Folder}
use Rattle.disks.specs.Others.{Steps, Between}
use Rattle.disks.specs.Past.{Passed}

-- one step where it went well, and another one where it failed
abbrev pub Gives : {A : Type 0} → Relied → (A → Folder → Folder → Type 0)
    → (Folder → Folder → Type 0) → Result A DiskError → Folder → Folder → Type 0
Gives relied ok err (Ok a) s t = Steps relied (ok a) s t
Gives relied ok err (Err e) s t = Steps relied err s t

-- a step of a call that tells nothing
abbrev pub Does : Relied → (Folder → Folder → Type 0) → (Folder → Folder → Type 0)
    → Result Unit DiskError → Folder → Folder → Type 0
Does relied ok err (Ok u) s t = Steps relied ok s t
Does relied ok err (Err e) s t = Steps relied err s t

-- a step that changes nothing
abbrev pub Stays : Folder → Folder → Type 0
Stays s t = t ≡ s

-- one of two steps
abbrev pub Either : (Folder → Folder → Type 0) → (Folder → Folder → Type 0)
    → Folder → Folder → Type 0
Either one other s t = one s t ⊎ other s t

-- from one moment to another the folder was in states alone that it may be in during such a step
abbrev pub Passes : Relied → (Folder → Folder → Type 0) → Folder → List Folder → List Folder
    → Type 0
Passes relied act s = Passed (Between relied act s)
