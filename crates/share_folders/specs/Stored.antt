-- What the files of a store hold, as far as its disk is honest.
use Rattle.std.specs.Prelude.{◌≡◌, ◌≢◌, ◌⊎◌, ℕ, List, length, true, false, Option, Some, None, ⊤}
use Rattle.std.specs.Prelude.{Bool, [], Result, Ok, Err, OnOk, IfSome}
use Rattle.disks.specs.Names.{Name, Relied, lasts}
use Rattle.disks.specs.Folder.{Folder, FileState, HasBytes, IsDurable, IsOwn}
use Rattle.disks.specs.Laws.{KeepsBut, KeepsBeside, FilesStay}
use Rattle.disks.specs.declared.error.DiskError.{DiskError}
use Rattle.share_store.specs.declared.error.StoreError.{StoreError}
use Rattle.share_store.specs.Shelf.{ShareKey, at, same_key}
use Rattle.share_folders.specs.declared.disk.Durability.{Durability}
use Rattle.share_folders.specs.declared.disk.Durability.TheVariants.{Synced}
use Rattle.share_folders.specs.declared.files.OpenShare.{OpenShare}
use Rattle.share_folders.specs.declared.files.RecentFile.{RecentFile}
use Rattle.share_folders.specs.declared.table.KeptShare.{KeptShare}
use Rattle.share_folders.specs.Names.{IsShareKey, closed_name, open_name}

-- A store's answer goes well where its disk's does, and with the same.
abbrev pub IsAs : {A : Type 0} → Result A DiskError → Result A StoreError → Type 0
IsAs (Ok a) (Ok b) = b ≡ a
IsAs (Ok a) (Err e) = ⊥
IsAs (Err d) (Ok b) = ⊥
IsAs (Err d) (Err e) = ⊤

-- These bytes were written to an open share: its file is the store's own, under this name, and is
-- not finished. Where none was begun, nothing was written.
abbrev pub WasWritten : {F : Type 0} → (F → ℕ) → Folder → Name → Option (OpenShare F)
    → List ℕ → Type 0
WasWritten inode s name None bytes = bytes ≡ []
WasWritten inode s name (Some share) bytes =
    (share.length ≡ length bytes)
    × ((synced : Bool) × IsOwn s name (inode share.file)
    (record { bytes = bytes; is_synced = synced; is_finished = false }))

-- These bytes were written to an open share, or it is begun anew at this offset.
abbrev pub IsReady : {F : Type 0} → (F → ℕ) → ℕ → Folder → Name → Option (OpenShare F)
    → List ℕ → Type 0
IsReady inode offset s name share bytes = (offset ≡ 0) ⊎ WasWritten inode s name share bytes

-- What a close does to the folder where these bytes were written. Once it went well they stand
-- under the closed name, where it is relied on with them, and synced they do so after each crash.
-- However it ends, what is durable and relied on stays so: under the closed name only what has
-- these bytes, and only in a synced store.
pub record FileCloses (relied : Relied) (durability : Durability) (closed : Name) (bytes : List ℕ)
    (r : Result Unit StoreError) (s t : Folder) : Type 0 where
  pub stands : relied closed bytes ≡ true → OnOk r (HasBytes t bytes (t.found closed))
  pub durable : durability ≡ Synced → relied closed bytes ≡ true
      → OnOk r (IsDurable t closed bytes)
  pub kept : durability ≡ Synced → KeepsBut relied closed bytes s t
  pub beside : KeepsBeside relied closed s t
  pub files : FilesStay s t

-- The number is not that of an open share's file.
abbrev pub IsNotOf : {F : Type 0} → (F → ℕ) → ℕ → Option (OpenShare F) → Type 0
IsNotOf inode i None = ⊤
IsNotOf inode i (Some share) = i ≢ inode share.file

-- Two open shares have two files.
abbrev pub AreTwo : {F : Type 0} → (F → ℕ) → Option (OpenShare F) → Option (OpenShare F) → Type 0
AreTwo inode share None = ⊤
AreTwo inode share (Some other) = IsNotOf inode (inode other.file) share

-- What was written to each other open share than this one is in its file still, however it ends,
-- where this one is begun anew or its file is another. It is another then once it went well.
abbrev pub StayOpen : {F : Type 0} → (F → ℕ) → Option (List ℕ) → ShareKey → Type 0
    → Result Unit StoreError → Folder → List (ShareKey × OpenShare F)
    → Folder → List (ShareKey × OpenShare F) → Type 0
StayOpen inode own key anew r s old t new = (other : ShareKey) (bytes : List ℕ)
    → IsShareKey key → IsShareKey other → same_key key other ≡ false
    → anew ⊎ AreTwo inode (at key old) (at other old)
    → WasWritten inode s (open_name other own) (at other old) bytes
    → WasWritten inode t (open_name other own) (at other new) bytes
    × OnOk r (AreTwo inode (at key new) (at other new))

-- This program's own files stay as they are under other names that pass than this one, but for an
-- open share's.
abbrev pub OwnStayButOf : {F : Type 0} → (F → ℕ) → Name → Option (OpenShare F)
    → Folder → Folder → Type 0
OwnStayButOf inode last share s t = (name : Name) (i : ℕ) (file : FileState)
    → lasts name ≡ false → name ≢ last → IsNotOf inode i share
    → IsOwn s name i file → IsOwn t name i file

-- The file that was read last has these bytes, if it is this share's.
abbrev pub RecentHas : {F : Type 0} → (F → ℕ) → Folder → ShareKey → Option (RecentFile F)
    → List ℕ → Type 0
RecentHas inode s key None bytes = ⊤
RecentHas inode s key (Some recent) bytes =
    recent.key ≡ key → HasBytes s bytes (Some (inode recent.file))

-- The file that was read last is the same, or none, or this share's.
abbrev pub IsLatest : {F : Type 0} → ShareKey → Option (RecentFile F) → Option (RecentFile F)
    → Type 0
IsLatest {F} key old new = (new ≡ old) ⊎ IfSome new (λ (recent : RecentFile F). recent.key ≡ key)

-- A closed share is in the table with this digest. Its length, where it was asked, is that of these
-- bytes.
pub record IsNoted (closed : List (ShareKey × KeptShare)) (key : ShareKey) (digest : List ℕ)
    (bytes : List ℕ) : Type 0 where
  pub long : Option ℕ
  pub there : at key closed ≡ Some (record { length = long; digest = digest })
  pub right : IfSome long (λ n. n ≡ length bytes)

-- A closed share has these bytes: it is in the table, and they stand under its name in the folder,
-- where they are relied on.
pub record IsKept (relied : Relied) (s : Folder) (closed : List (ShareKey × KeptShare))
    (key : ShareKey) (digest bytes : List ℕ) : Type 0 where
  pub size : length digest ≡ 32
  pub relies : relied (closed_name key digest) bytes ≡ true
  pub noted : IsNoted closed key digest bytes
  pub stands : HasBytes s bytes (s.found (closed_name key digest))

-- Each closed share of which the bytes stand stays in the table, and they stand still.
abbrev pub StayKept : Relied → Folder → List (ShareKey × KeptShare) → Folder
    → List (ShareKey × KeptShare) → Type 0
StayKept relied s old t new = (key : ShareKey) (digest bytes : List ℕ)
    → IsKept relied s old key digest bytes → IsKept relied t new key digest bytes

-- A store has a closed share of these bytes. The file that was read last has them too, if it is
-- this share's.
pub record HasShare {F : Type 0} (relied : Relied) (inode : F → ℕ) (s : Folder)
    (closed : List (ShareKey × KeptShare)) (recent : Option (RecentFile F)) (key : ShareKey)
    (digest bytes : List ℕ) : Type 0 where
  pub kept : IsKept relied s closed key digest bytes
  pub last : RecentHas inode s key recent bytes

-- Each share that a store has it has still.
abbrev pub StayHeld : {F : Type 0} → Relied → (F → ℕ) → Folder → List (ShareKey × KeptShare)
    → Option (RecentFile F) → Folder → List (ShareKey × KeptShare) → Option (RecentFile F) → Type 0
StayHeld relied inode s old recent t new latest = (key : ShareKey) (digest bytes : List ℕ)
    → HasShare relied inode s old recent key digest bytes
    → HasShare relied inode t new latest key digest bytes
