-- What the calls of a store over a disk do, as far as its disk is honest.
use Rattle.std.specs.Prelude.{◌≡◌, ◌==◌, ◌++◌, ℕ, List, [], take, drop, true, Option, Some, None}
use Rattle.std.specs.Prelude.{IsSome, Result, IfOk, OnErr, OnOk, Contains, option_map}
use Rattle.std.specs.Prelude.{if◌then◌else◌}
use Rattle.std.specs.BTreeMap.{insert_entry}
use Rattle.wire.specs.declared.message.ShareId.{ShareId}
use Rattle.wire.specs.declared.message.HeldShare.{HeldShare}
use Rattle.disks.specs.Names.{Relied}
use Rattle.disks.specs.Folder.{Folder}
use Rattle.disks.specs.Laws.{OwnStay, OwnStayBeside, StaysHeld}
use Rattle.share_store.specs.declared.error.StoreError.{StoreError}
use Rattle.share_store.specs.Calls.{Calls}
use Rattle.share_store.specs.Shelf.{ShareKey, at, is_under, key_of, order, same_key}
use Rattle.share_folders.specs.declared.disk.Durability.{Durability}
use Rattle.share_folders.specs.declared.disk.Durability.TheVariants.{Synced}
use Rattle.share_folders.specs.declared.files.OpenShare.{OpenShare}
use Rattle.share_folders.specs.declared.files.RecentFile.{RecentFile}
use Rattle.share_folders.specs.declared.table.KeptShare.{KeptShare}
use Rattle.share_folders.specs.Folder.{counted, length_at, lengths_of}
use Rattle.share_folders.specs.Names.{closed_name, open_name}
use Rattle.share_folders.specs.Stored.{FileCloses, HasShare, IsReady, StayHeld, StayOpen}
use Rattle.share_folders.specs.Stored.{WasWritten}
use Rattle.share_folders.specs.Table.{StayBeside}

-- What contracts know of the disks of one kind: what the folder of each holds, whether it was
-- honest so far, what is relied on in it, and the number of each open file.
pub record Facts (D F : Type 0) : Type 1 where
  pub folder : D → Folder
  pub honest : D → Type 0
  pub relied : Relied
  pub inode : F → ℕ

-- A store: its disk, what the files of its open shares are named by, whether a share outlasts a
-- power failure once it is closed, its closed shares and its open ones, the file that was read
-- last, and the faults so far.
pub record StoreState (D F : Type 0) : Type 0 where
  pub disk : D
  pub own : Option (List ℕ)
  pub durability : Durability
  pub closed : List (ShareKey × KeptShare)
  pub opened : List (ShareKey × OpenShare F)
  pub recent : Option (RecentFile F)
  pub failures : ℕ

-- A store that takes shares is synced. One that is opened for reading takes none.
abbrev pub IsSyncing : {D F : Type 0} → StoreState D F → Type 0
IsSyncing s = IsSome s.own → s.durability ≡ Synced

-- What every call leaves. A fault is counted.
pub record Goes {D F A : Type 0} (d : Facts D F) (s : StoreState D F) (r : Result A StoreError)
    (t : StoreState D F) : Type 0 where
  pub own : t.own ≡ s.own
  pub durability : t.durability ≡ s.durability
  pub failures : t.failures ≡ counted r s.failures
  pub so_far : d.honest t.disk → d.honest s.disk

-- these bytes were written to an open share of the store
abbrev pub HasWritten : {D F : Type 0} → Facts D F → ShareKey → StoreState D F → List ℕ → Type 0
HasWritten d key s bytes =
    WasWritten d.inode (d.folder s.disk) (open_name key s.own) (at key s.opened) bytes

-- or it is begun anew at this offset
abbrev pub IsWritable : {D F : Type 0} → Facts D F → ℕ → ShareKey → StoreState D F → List ℕ
    → Type 0
IsWritable d offset key s bytes =
    IsReady d.inode offset (d.folder s.disk) (open_name key s.own) (at key s.opened) bytes

-- What was written to other open shares than this one is theirs still.
abbrev pub OthersStayOpen : {D F : Type 0} → Facts D F → ShareKey → Type 0
    → Result Unit StoreError → StoreState D F → StoreState D F → Type 0
OthersStayOpen d key anew r s t =
    StayOpen d.inode s.own key anew r (d.folder s.disk) s.opened (d.folder t.disk) t.opened

-- Bytes come behind those that were written, or the share is begun anew with them.
pub record DiskWrites {D F : Type 0} (d : Facts D F) (s : StoreState D F) (id : ShareId)
    (offset : ℕ) (bytes : List ℕ) (r : Result Unit StoreError) (t : StoreState D F) : Type 0 where
  pub goes : Goes d s r t
  pub closed : t.closed ≡ s.closed
  pub recent : t.recent ≡ s.recent
  pub others : StayBeside (same_key (key_of id)) s.opened t.opened
  pub written : d.honest t.disk → (before : List ℕ) → IsWritable d offset (key_of id) s before
      → OnOk r (HasWritten d (key_of id) t ((if offset == 0 then [] else before) ++ bytes))
  pub held : d.honest t.disk → (before : List ℕ) → IsWritable d offset (key_of id) s before
      → StaysHeld d.relied (d.folder s.disk) (d.folder t.disk)
  pub beside : d.honest t.disk → OthersStayOpen d (key_of id) (offset ≡ 0) r s t

-- The file of an open share gets its closed name, and the share is closed.
pub record DiskCloses {D F : Type 0} (d : Facts D F) (s : StoreState D F) (id : ShareId)
    (digest : List ℕ) (r : Result Unit StoreError) (t : StoreState D F) : Type 0 where
  pub goes : Goes d s r t
  pub closed : OnOk r (t.closed ≡ insert_entry order s.closed (key_of id) (record {
    length = Some (length_at (key_of id) (lengths_of s.opened));
    digest = digest;
  }))
  pub takes : OnOk r (IsSome s.own)
  pub err_closed : OnErr r (t.closed ≡ s.closed)
  pub recent : OnOk r (t.recent ≡ None)
  pub err_recent : OnErr r (t.recent ≡ s.recent)
  pub others : StayBeside (same_key (key_of id)) s.opened t.opened
  pub closes : d.honest t.disk → (bytes : List ℕ) → HasWritten d (key_of id) s bytes
      → FileCloses d.relied s.durability (closed_name (key_of id) digest) bytes r
      (d.folder s.disk) (d.folder t.disk)
  pub beside : d.honest t.disk → (bytes : List ℕ) → HasWritten d (key_of id) s bytes
      → OthersStayOpen d (key_of id) ⊥ r s t

-- The folder is as it was, and so is each closed share of which the bytes stand there.
pub record DiskStays {D F : Type 0} (d : Facts D F) (s t : StoreState D F) : Type 0 where
  pub opened : t.opened ≡ s.opened
  pub still : d.honest t.disk → StayHeld d.relied d.inode (d.folder s.disk) s.closed s.recent
      (d.folder t.disk) t.closed t.recent
  pub held : d.honest t.disk → StaysHeld d.relied (d.folder s.disk) (d.folder t.disk)
  pub beside : d.honest t.disk → OwnStay (d.folder s.disk) (d.folder t.disk)

-- a closed share of these bytes, which is relied on
abbrev pub Has : {D F : Type 0} → Facts D F → StoreState D F → ShareKey → List ℕ → List ℕ
    → Type 0
Has d s = HasShare d.relied d.inode (d.folder s.disk) s.closed s.recent

-- A read that goes well gives the bytes of a closed share that is relied on.
pub record DiskReads {D F : Type 0} (d : Facts D F) (s : StoreState D F) (id : ShareId)
    (offset count : ℕ) (r : Result (List ℕ) StoreError) (t : StoreState D F) : Type 0 where
  pub goes : Goes d s r t
  pub stays : DiskStays d s t
  pub given : d.honest t.disk → (digest bytes : List ℕ) → Has d s (key_of id) digest bytes
      → IfOk r (λ (got : List ℕ). got ≡ take count (drop offset bytes))

-- A list that goes well tells each closed share of the storage index that is relied on.
pub record DiskLists {D F : Type 0} (d : Facts D F) (s : StoreState D F) (index : List ℕ)
    (r : Result (List HeldShare) StoreError) (t : StoreState D F) : Type 0 where
  pub goes : Goes d s r t
  pub stays : DiskStays d s t
  pub each : d.honest t.disk → (key : ShareKey) (digest bytes : List ℕ) → Has d s key digest bytes
      → is_under index key ≡ true → IfOk r
      (λ (found : List HeldShare). Contains found (record { share = key.1; digest = digest }))

-- An open share is open no longer. The folder has what it had, but for its file.
pub record DiskLetsGo {D F : Type 0} (d : Facts D F) (s : StoreState D F) (id : ShareId)
    (t : StoreState D F) : Type 0 where
  pub own : t.own ≡ s.own
  pub durability : t.durability ≡ s.durability
  pub failures : t.failures ≡ s.failures
  pub so_far : d.honest t.disk → d.honest s.disk
  pub closed : t.closed ≡ s.closed
  pub recent : t.recent ≡ s.recent
  pub gone : at (key_of id) t.opened ≡ None
  pub others : StayBeside (same_key (key_of id)) s.opened t.opened
  pub held : d.honest t.disk → StaysHeld d.relied (d.folder s.disk) (d.folder t.disk)
  pub beside : d.honest t.disk → OwnStayBeside (open_name (key_of id) s.own)
      (d.folder s.disk) (d.folder t.disk)

-- What was open is open no longer.
abbrev pub DiskRestarts : {D F : Type 0} → StoreState D F → StoreState D F → Type 0
DiskRestarts s t =
    t ≡ record {
      disk = s.disk;
      own = s.own;
      durability = s.durability;
      closed = s.closed;
      opened = [];
      recent = s.recent;
      failures = s.failures;
    }

-- A folder's room is its disk's, so no used bytes are reckoned.
abbrev pub disk_calls : {D F : Type 0} → Facts D F → Calls (StoreState D F)
disk_calls d =
    record {
      told = λ s id. option_map (λ (k : KeptShare). k.digest) (at (key_of id) s.closed);
      used = λ s. 0;
      write_gives = DiskWrites d;
      close_gives = DiskCloses d;
      read_gives = DiskReads d;
      list_gives = DiskLists d;
      let_go_gives = DiskLetsGo d;
      restart_gives = DiskRestarts;
    }
