-- What happens to servers over one folder, one after another.
use Rattle.std.specs.Prelude.{◌≡◌, ◌⊎◌, ℕ, List, [], ◌∷◌, Ok, Err, ⊤}
use Rattle.std.specs.List.{AllByRecursion}
use Rattle.wire.specs.declared.message.Body.{Body}
use Rattle.wire.specs.declared.message.Body.TheVariants.{Write, Close}
use Rattle.wire.specs.declared.message.Message.{Message}
use Rattle.wire.specs.declared.message.ShareId.{ShareId}
use Rattle.disks.specs.Names.{Name}
use Rattle.share_store.specs.Shelf.{key_of}
use Rattle.share_folders.specs.Names.{IsShareKey}
use Rattle.server_core.specs.declared.error.ServerFault.TheVariants.{OutOfMemory}
use Rattle.server_core.specs.ServerState.{ServerState, Outcome, RestartsTo, Serves, Ticks}
use Rattle.server_core.specs.ServerState.{LetsGoOfEnded, without_client}
use Rattle.folder_keeping.specs.Store.{Facts, StoreState, DiskRestarts, disk_calls}
use Rattle.folder_keeping.specs.Steps.{Reopens}

-- the machine of a server whose store is over a disk
abbrev pub FolderServer : Type 0 → Type 0 → Type 0
FolderServer D F = ServerState (StoreState D F)

-- A message of a client at a time, and what came of it; the time; a client that is forgotten; these
-- shares, which its store lets go of; a restart of the machine; or the end of its program, after
-- which a server is started that finds these names in the folder.
pub data Event : Type 0 where
  Asked : ℕ → Message → ℕ → Outcome → Event
  Ticked : ℕ → Event
  Forgot : ℕ → Event
  LetGo : List ShareId → Event
  Restarted : Event
  Started : List Name → Event

-- The share that is written or closed is named by an index of 16 bytes and a number below 256.
abbrev pub HasShareKey : Body → Type 0
HasShareKey (Write id offset bytes) = IsShareKey (key_of id)
HasShareKey (Close id) = IsShareKey (key_of id)
HasShareKey _ = ⊤

-- The machine does what its table says, over a store that does what its disk does.
pub record Serving {D F : Type 0} (d : Facts D F) (s : FolderServer D F) (from : ℕ) (m : Message)
    (now : ℕ) (outcome : Outcome) (t : FolderServer D F) : Type 0 where
  pub keyed : HasShareKey m.body
  pub serves : Serves (disk_calls d) s from m now outcome t

-- Its store lets go of these shares, which are so named and have no bucket.
pub record LettingGo {D F : Type 0} (d : Facts D F) (s : FolderServer D F) (ids : List ShareId)
    (t : FolderServer D F) : Type 0 where
  pub goes : LetsGoOfEnded (disk_calls d) s t
  pub these : goes.ids ≡ ids
  pub keyed : AllByRecursion (λ (id : ShareId). IsShareKey (key_of id)) ids

abbrev pub HadMemory : Outcome → Type 0
HadMemory (Ok answer) = ⊤
HadMemory (Err OutOfMemory) = ⊥
HadMemory (Err fault) = ⊤

-- For a message there was no memory: the program ends then.
pub record Failed {D F : Type 0} (d : Facts D F) (s t : FolderServer D F) : Type 0 where
  pub from : ℕ
  pub message : Message
  pub now : ℕ
  pub serving : Serving d s from message now (Err OutOfMemory) t

-- The program ended, for want of memory or not, and a server was started over what is left.
pub record Starts {D F : Type 0} (d : Facts D F) (s : FolderServer D F) (names : List Name)
    (t : FolderServer D F) : Type 0 where
  pub last : FolderServer D F
  pub ended : (last ≡ s) ⊎ Failed d s last
  pub store : Reopens d last.store names t.store
  pub buckets : t.buckets ≡ []

abbrev pub Happens : {D F : Type 0} → Facts D F → Event → FolderServer D F → FolderServer D F
    → Type 0
Happens d (Asked from m now outcome) s t = Serving d s from m now outcome t × HadMemory outcome
Happens d (Ticked now) s t = Ticks s now t
Happens d (Forgot client) s t = t ≡ without_client client s
Happens d (LetGo ids) s t = LettingGo d s ids t
Happens d Restarted s t = RestartsTo DiskRestarts s t
Happens d (Started names) s t = Starts d s names t

-- These events lead from one server to another.
abbrev pub HappenAll : {D F : Type 0} → Facts D F → List Event → FolderServer D F
    → FolderServer D F → Type 0
HappenAll d [] s t = t ≡ s
HappenAll {D} {F} d (event ∷ events) s t =
    (m : FolderServer D F) × Happens d event s m × HappenAll d events m t
