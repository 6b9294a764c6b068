-- What happens to stores over one folder, one after another.
use Rattle.std.specs.Prelude.{◌≡◌, ◌⊎◌, ℕ, List, [], ◌∷◌, None, true, false, Result, Contains}
use Rattle.wire.specs.declared.message.ShareId.{ShareId}
use Rattle.wire.specs.declared.message.HeldShare.{HeldShare}
use Rattle.disks.specs.Names.{Name, IsRelied}
use Rattle.disks.specs.Folder.{Folder, Crashes, IsDurable, StandsFor}
use Rattle.disks.specs.Steps.{SameFiles}
use Rattle.share_store.specs.declared.error.StoreError.{StoreError}
use Rattle.share_store.specs.Shelf.{ShareKey, at, key_of}
use Rattle.share_folders.specs.declared.disk.Durability.TheVariants.{Synced}
use Rattle.share_folders.specs.Listed.{AreTaken}
use Rattle.share_folders.specs.Names.{IsNamed, closed_name}
use Rattle.folder_keeping.specs.Store.{Facts, StoreState, DiskWrites, DiskCloses, DiskReads}
use Rattle.folder_keeping.specs.Store.{DiskLists, DiskLetsGo, DiskRestarts, IsSyncing}

-- A call with what it answered, or the end of a store's program, after which a store is opened that
-- finds these names in the folder.
pub data Step : Type 0 where
  Wrote : ShareId → ℕ → List ℕ → Result Unit StoreError → Step
  Closed : ShareId → List ℕ → Result Unit StoreError → Step
  Read : ShareId → ℕ → ℕ → Result (List ℕ) StoreError → Step
  Listed : List ℕ → Result (List HeldShare) StoreError → Step
  Went : ShareId → Step
  Restarted : Step
  Opened : List Name → Step

-- The program ended, and its machine did not.
pub record IsLeft (s t : Folder) : Type 0 where
  pub files : SameFiles s t
  pub found : (name : Name) → t.found name ≡ s.found name
  pub left : (name : Name) → t.left name ≡ s.left name
  pub none_own : (name : Name) → t.own name ≡ false

-- It ended, or its machine crashed.
abbrev pub Ends : Folder → Folder → Type 0
Ends s t = Crashes s t ⊎ IsLeft s t

-- A store was opened over a disk, and found these names. Each that was durable, and is relied on,
-- is among them, and is durable still. A synced store has made durable each closed name that stood
-- for bytes on the disk, and is relied on with them.
pub record IsOpened {D F : Type 0} (d : Facts D F) (disk : D) (names : List Name)
    (t : StoreState D F) : Type 0 where
  pub opened : t.opened ≡ []
  pub recent : t.recent ≡ None
  pub taken : AreTaken names t.closed
  pub so_far : d.honest t.disk → d.honest disk
  pub found : d.honest t.disk → (name : Name) (bytes : List ℕ)
      → IsRelied d.relied name bytes → IsDurable (d.folder disk) name bytes
      → Contains names name × IsDurable (d.folder t.disk) name bytes
  pub settled : d.honest t.disk → t.durability ≡ Synced → (key : ShareKey) (digest bytes : List ℕ)
      → IsNamed key digest → d.relied (closed_name key digest) bytes ≡ true
      → StandsFor (d.folder disk) bytes ((d.folder disk).found (closed_name key digest))
      → Contains names (closed_name key digest)
      × IsDurable (d.folder t.disk) (closed_name key digest) bytes

-- The disk of the store before was honest to its end, and the one that is opened holds what is
-- left.
pub record Reopens {D F : Type 0} (d : Facts D F) (s : StoreState D F) (names : List Name)
    (t : StoreState D F) : Type 0 where
  pub honest : d.honest s.disk
  pub disk : D
  pub ends : Ends (d.folder s.disk) (d.folder disk)
  pub is_opened : IsOpened d disk names t
  pub syncing : IsSyncing t

-- What a step does. A share is closed only where none is closed at its key.
abbrev pub Does : {D F : Type 0} → Facts D F → Step → StoreState D F → StoreState D F → Type 0
Does d (Wrote id offset bytes r) s t = DiskWrites d s id offset bytes r t
Does d (Closed id digest r) s t =
    (at (key_of id) s.closed ≡ None) × DiskCloses d s id digest r t
Does d (Read id offset count r) s t = DiskReads d s id offset count r t
Does d (Listed index r) s t = DiskLists d s index r t
Does d (Went id) s t = DiskLetsGo d s id t
Does d Restarted s t = DiskRestarts s t
Does d (Opened names) s t = Reopens d s names t

-- These steps lead from one store to another.
abbrev pub Runs : {D F : Type 0} → Facts D F → List Step → StoreState D F → StoreState D F
    → Type 0
Runs d [] s t = t ≡ s
Runs {D} {F} d (step ∷ steps) s t = (m : StoreState D F) × Does d step s m × Runs d steps m t
