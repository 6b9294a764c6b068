-- What the calls of a disk do to a folder.
use Rattle.std.specs.Prelude.{◌≡◌, ◌≢◌, ℕ, List, [], ◌∷◌, ◌++◌, Option, Some, None, true, false}
use Rattle.std.specs.Prelude.{Contains, length, take, drop}
use Rattle.disks.specs.Names.{Name, lasts}
use Rattle.disks.specs.Folder.{Folder, FileState, HasBytes}

-- the name is as it was
pub record SameName (s t : Folder) (name : Name) : Type 0 where
  pub found : t.found name ≡ s.found name
  pub left : t.left name ≡ s.left name
  pub own : t.own name ≡ s.own name

abbrev pub SameFiles : Folder → Folder → Type 0
SameFiles s t = (i : ℕ) → t.file i ≡ s.file i

abbrev pub OtherFilesStay : ℕ → Folder → Folder → Type 0
OtherFilesStay i s t = (j : ℕ) → j ≢ i → t.file j ≡ s.file j

-- A file was made where nothing stood. It is none of those that stand under a name, and its name is
-- this program's own from then on.
pub record Creates (name : Name) (i : ℕ) (s t : Folder) : Type 0 where
  pub free : s.found name ≡ None
  pub new : (s.file i).is_finished ≡ false
  pub fresh : (other : Name) → s.found other ≢ Some i
  pub found : t.found name ≡ Some i
  pub own : t.own name ≡ true
  pub file : t.file i ≡ record { bytes = []; is_synced = false; is_finished = false }
  pub names : (other : Name) → other ≢ name → SameName s t other
  pub files : OtherFilesStay i s t

abbrev pub Makes : Name → Folder → Folder → Type 0
Makes name s t = (i : ℕ) × Creates name i s t

-- the file, and nothing else
pub record Changes (i : ℕ) (change : FileState → FileState) (s t : Folder) : Type 0 where
  pub file : t.file i ≡ change (s.file i)
  pub names : (name : Name) → SameName s t name
  pub files : OtherFilesStay i s t

-- Bytes came at the end of the file.
abbrev pub Appends : ℕ → List ℕ → Folder → Folder → Type 0
Appends i bytes =
    Changes i (λ (f : FileState). record f { bytes = f.bytes ++ bytes; is_synced = false })

-- The bytes of the file were put on the disk.
abbrev pub SyncsFile : ℕ → Folder → Folder → Type 0
SyncsFile i = Changes i (λ (f : FileState). record f { is_synced = true })

-- An append or a sync failed: the file may hold anything, or what it held.
abbrev pub Spoils : ℕ → Folder → Folder → Type 0
Spoils i s t =
    (f : FileState) × (f.is_finished ≡ (s.file i).is_finished)
    × Changes i (λ (was : FileState). f) s t

-- What stood under one name stands under the other, finished, in place of what stood there. A crash
-- may leave each of the two names as it was or as it is.
pub record Renames (from to : Name) (s t : Folder) : Type 0 where
  pub inode : ℕ
  pub was : s.found from ≡ Some inode
  pub found : t.found to ≡ Some inode
  pub left : t.left to ≡ s.left to ++ Some inode ∷ []
  pub gone : t.found from ≡ None
  pub own : t.own from ≡ false
  pub same_own : t.own to ≡ s.own to
  pub file : t.file inode ≡ record (s.file inode) { is_finished = true }
  pub names : (other : Name) → other ≢ from → other ≢ to → SameName s t other
  pub files : OtherFilesStay inode s t

-- What stood under one name stands under the other too, finished, where nothing stood. A crash may
-- leave the other name as it was or as it is.
pub record Links (from to : Name) (s t : Folder) : Type 0 where
  pub inode : ℕ
  pub was : s.found from ≡ Some inode
  pub free : s.found to ≡ None
  pub found : t.found to ≡ Some inode
  pub left : t.left to ≡ s.left to ++ Some inode ∷ []
  pub same_own : t.own to ≡ s.own to
  pub file : t.file inode ≡ record (s.file inode) { is_finished = true }
  pub names : (other : Name) → other ≢ to → SameName s t other
  pub files : OtherFilesStay inode s t

-- The names were put on the disk.
pub record SyncsFolder (s t : Folder) : Type 0 where
  pub left : (name : Name) → t.left name ≡ s.found name ∷ []
  pub found : (name : Name) → t.found name ≡ s.found name
  pub own : (name : Name) → t.own name ≡ s.own name
  pub files : SameFiles s t

-- Some of them may have been.
pub record MaySyncFolder (s t : Folder) : Type 0 where
  pub left : (name : Name) (o : Option ℕ) → Contains (t.left name) o → Contains (s.left name) o
  pub found : (name : Name) → t.found name ≡ s.found name
  pub own : (name : Name) → t.own name ≡ s.own name
  pub files : SameFiles s t

-- Nothing was changed, and the name stood for this file.
pub record Opens (name : Name) (i : ℕ) (s t : Folder) : Type 0 where
  pub same : t ≡ s
  pub found : s.found name ≡ Some i

-- Nothing was changed, and these are bytes of the file from an offset on.
pub record ReadsAt (i offset : ℕ) (bytes : List ℕ) (s t : Folder) : Type 0 where
  pub same : t ≡ s
  pub bytes_are : bytes ≡ take (length bytes) (drop offset (s.file i).bytes)

-- Nothing was changed, and so many bytes has the file under the name, or there is none.
abbrev pub Finds : Name → Option ℕ → Folder → Folder → Type 0
Finds name None s t = (t ≡ s) × (s.found name ≡ None)
Finds name (Some n) s t =
    (t ≡ s) × ((i : ℕ) × (s.found name ≡ Some i) × (length (s.file i).bytes ≡ n))

-- What stood under the name is gone, which is nobody's own then.
pub record Removes (name : Name) (s t : Folder) : Type 0 where
  pub found : t.found name ≡ None
  pub own : t.own name ≡ false
  pub names : (other : Name) → other ≢ name → SameName s t other
  pub files : SameFiles s t

-- Nothing was changed, and each finished file under a name that lasts is among these names. Other
-- names may be, and may be gone.
pub record Lists (names : List Name) (s t : Folder) : Type 0 where
  pub same : t ≡ s
  pub all : (name : Name) (bytes : List ℕ) → lasts name ≡ true → HasBytes s bytes (s.found name)
      → Contains names name
