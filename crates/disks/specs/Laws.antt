-- What holds of folders.
use Rattle.std.specs.Prelude.{◌≡◌, ◌≢◌, ◌⊎◌, ℕ, List, Some, false}
use Rattle.disks.specs.Names.{Name, Relied, IsRelied, lasts}
use Rattle.disks.specs.Folder.{Folder, FileState, HasBytes, IsDurable, IsOneOf, IsOwn, Crashes}

-- What is durable stays so through a crash.
abbrev pub DurableOutlasts : Type 0
DurableOutlasts = (s t : Folder) (name : Name) (bytes : List ℕ)
    → IsDurable s name bytes → Crashes s t → IsDurable t name bytes

-- What is durable as one of two texts is durable as one of them after a crash.
abbrev pub OneOutlasts : Type 0
OneOutlasts = (s t : Folder) (name : Name) (one other : List ℕ)
    → IsOneOf s name one other → Crashes s t → IsDurable t name one ⊎ IsDurable t name other

-- What names that last stand for, what finished files have, and what is durable stays so, under
-- the names where it is relied on.
pub record StaysHeld (relied : Relied) (s t : Folder) : Type 0 where
  pub names : (name : Name) (bytes : List ℕ) → IsRelied relied name bytes
      → HasBytes s bytes (s.found name) → HasBytes t bytes (t.found name)
  pub files : (i : ℕ) (bytes : List ℕ) → HasBytes s bytes (Some i) → HasBytes t bytes (Some i)
  pub durable : (name : Name) (bytes : List ℕ) → IsRelied relied name bytes
      → IsDurable s name bytes → IsDurable t name bytes

-- What finished files have stays so.
abbrev pub FilesStay : Folder → Folder → Type 0
FilesStay s t = (i : ℕ) (bytes : List ℕ) → HasBytes s bytes (Some i) → HasBytes t bytes (Some i)

-- What is durable under the names that last, and is relied on, stays so, but that what stood under
-- this one stays only where it has these bytes.
abbrev pub KeepsBut : Relied → Name → List ℕ → Folder → Folder → Type 0
KeepsBut relied last bytes s t = (name : Name) (kept : List ℕ) → IsRelied relied name kept
    → (name ≡ last → kept ≡ bytes) → IsDurable s name kept → IsDurable t name kept

-- What is durable under the names that last, and is relied on, stays so, but under this one.
abbrev pub KeepsBeside : Relied → Name → Folder → Folder → Type 0
KeepsBeside relied last s t = (name : Name) (bytes : List ℕ) → IsRelied relied name bytes
    → name ≢ last → IsDurable s name bytes → IsDurable t name bytes

-- This program's own files stay as they are.
abbrev pub OwnStay : Folder → Folder → Type 0
OwnStay s t = (name : Name) (i : ℕ) (file : FileState) → IsOwn s name i file → IsOwn t name i file

-- So do those under other names than this one.
abbrev pub OwnStayBeside : Name → Folder → Folder → Type 0
OwnStayBeside last s t = (name : Name) (i : ℕ) (file : FileState)
    → name ≢ last → IsOwn s name i file → IsOwn t name i file

-- So do others than this one, under names that pass.
abbrev pub OwnStayBut : ℕ → Folder → Folder → Type 0
OwnStayBut last s t = (name : Name) (i : ℕ) (file : FileState)
    → lasts name ≡ false → i ≢ last → IsOwn s name i file → IsOwn t name i file
