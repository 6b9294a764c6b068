-- A file that is written piece by piece, and gets its name once it is whole.
use Rattle.std.specs.Prelude.{ℕ, List, Bool, false}
use Rattle.disks.specs.Names.{Name, Relied}
use Rattle.disks.specs.Folder.{Folder, IsOwn}
use Rattle.disks.specs.Whole.{IsFree, Keeps, Beside}

-- Since the folder was this one a file was begun under a name of its own, at which nothing stood,
-- and what stands under every other name, and is relied on, is kept.
pub record IsBegun (relied : Relied) (begun : Folder) (own : Name) (s : Folder) : Type 0 where
  pub free : IsFree relied begun own
  pub kept : Keeps relied own (Beside own) begun s

-- The file has these bytes, which may be on the disk.
pub record IsFilled (relied : Relied) (begun : Folder) (own : Name) (i : ℕ) (bytes : List ℕ)
    (synced : Bool) (s : Folder) : Type 0 where
  pub since : IsBegun relied begun own s
  pub file : IsOwn s own i (record { bytes = bytes; is_synced = synced; is_finished = false })

-- It has what was handed to it so far, and nothing else.
abbrev pub IsWriting : Relied → Folder → Name → ℕ → List ℕ → Folder → Type 0
IsWriting relied begun own i bytes s = IsFilled relied begun own i bytes false s
