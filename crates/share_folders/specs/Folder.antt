-- What a store over files does, as far as its table tells. What the files hold is for the folder to
-- keep.
use Rattle.std.specs.Prelude.{◌≡◌, ℕ, ◌+◌, ◌-◌, ◌^◌, ◌==◌, min, List, [], length, map, Bool, false}
use Rattle.std.specs.Prelude.{true, not, Option, Some, None, IsSome, Result, Ok, Err, OnOk}
use Rattle.std.specs.Prelude.{if◌then◌else◌, option_map, unwrap_or}
use Rattle.std.specs.BTreeMap.{insert_entry}
use Rattle.wire.specs.declared.message.ShareId.{ShareId}
use Rattle.wire.specs.declared.message.HeldShare.{HeldShare}
use Rattle.share_folders.specs.declared.table.KeptShare.{KeptShare}
use Rattle.share_store.specs.declared.error.StoreError.{StoreError}
use Rattle.share_store.specs.declared.error.StoreError.TheVariants.{OutOfMemory, StoreFault}
use Rattle.share_store.specs.Shelf.{ShareKey, key_of, order, same_key, at, held_by}
use Rattle.share_store.specs.Calls.{Calls}
use Rattle.share_folders.specs.declared.disk.Durability.{Durability}
use Rattle.share_folders.specs.declared.disk.Durability.TheVariants.{Unsynced}
use Rattle.share_folders.specs.declared.listing.Purpose.{Purpose}
use Rattle.share_folders.specs.declared.listing.Purpose.TheVariants.{Reading, Writing}
use Rattle.share_folders.specs.Table.{AreSeen, HasUnasked, StayBeside, has_index, is_known}
use Rattle.share_folders.specs.declared.files.OpenShare.{OpenShare}

-- the folder's path, what open shares' files are named by where shares are taken, whether a share
-- outlasts a power failure once it is closed, the closed shares, how many bytes were written to
-- each open one, and the faults so far
pub record FolderState : Type 0 where
  pub folder : List ℕ
  pub own : Option (List ℕ)
  pub durability : Durability
  pub closed : List (ShareKey × KeptShare)
  pub opened : List (ShareKey × ℕ)
  pub failures : ℕ

abbrev pub kept_at : ShareId → FolderState → Option KeptShare
kept_at id s = at (key_of id) s.closed

abbrev pub kept_digest : ShareId → FolderState → Option (List ℕ)
kept_digest id s = option_map (λ (k : KeptShare). k.digest) (kept_at id s)

-- a length that is known
abbrev pub length_of : Option KeptShare → ℕ
length_of None = 0
length_of (Some k) = unwrap_or k.length 0

abbrev pub kept_length : ShareId → FolderState → ℕ
kept_length id s = length_of (kept_at id s)

-- how many bytes were written to an open share
abbrev pub length_at : ShareKey → List (ShareKey × ℕ) → ℕ
length_at key opened = unwrap_or (at key opened) 0

-- how many bytes were written to each open share
abbrev pub lengths_of : {F : Type 0} → List (ShareKey × OpenShare F) → List (ShareKey × ℕ)
lengths_of {F} = map (λ (e : ShareKey × OpenShare F). (e.0, e.1.length))

-- every open share at another key is as long as it was
abbrev pub IsOpenedAt : ShareKey → List (ShareKey × ℕ) → List (ShareKey × ℕ) → Type 0
IsOpenedAt key old new =
    (other : ShareKey) → same_key key other ≡ false → length_at other new ≡ length_at other old

abbrev pub OthersStay : ShareId → List (ShareKey × ℕ) → List (ShareKey × ℕ) → Type 0
OthersStay id = IsOpenedAt (key_of id)

-- Is the store of a folder to take shares? It is opened for writing, and the folder has no file
-- `readonly`.
abbrev pub takes_shares : Purpose → Bool → Bool
takes_shares Reading readonly = false
takes_shares (Writing durability) readonly = not readonly

-- Does what is written outlast a power failure? For reading nothing is put on the disk.
abbrev pub durability_of : Purpose → Durability
durability_of Reading = Unsynced
durability_of (Writing durability) = durability

-- the faults after a call
abbrev pub counted : {A : Type 0} → Result A StoreError → ℕ → ℕ
counted (Ok a) n = n
counted (Err OutOfMemory) n = n
counted (Err StoreFault) n = min (n + 1) (2 ^ 64 - 1)

-- the same store with one more fault
abbrev pub faulted : FolderState → FolderState
faulted s = record s { failures = min (s.failures + 1) (2 ^ 64 - 1) }

-- the same store, but for closed shares that were asked for, and so looked at
pub record LooksAt (asked : ShareKey → Bool) (s t : FolderState) : Type 0 where
  pub seen : AreSeen s.closed t.closed
  pub others : StayBeside asked s.closed t.closed
  pub folder : t.folder ≡ s.folder
  pub own : t.own ≡ s.own
  pub durability : t.durability ≡ s.durability
  pub opened : t.opened ≡ s.opened
  pub failures : t.failures ≡ s.failures

-- A store that takes no shares writes none, and closes none.
abbrev pub FolderWrites : FolderState → ShareId → ℕ → List ℕ → Result Unit StoreError
    → FolderState → Type 0
FolderWrites s id offset bytes r t =
    (t.folder ≡ s.folder) × (t.own ≡ s.own) × (t.durability ≡ s.durability)
    × (t.closed ≡ s.closed) × (t.failures ≡ counted r s.failures)
    × OthersStay id s.opened t.opened × OnOk r (IsSome s.own)
    × OnOk r (length_at (key_of id) t.opened
    ≡ (if offset == 0 then 0 else length_at (key_of id) s.opened) + length bytes)

abbrev pub FolderCloses : FolderState → ShareId → List ℕ → Result Unit StoreError
    → FolderState → Type 0
FolderCloses s id digest (Ok u) t =
    (t.closed ≡ insert_entry order s.closed (key_of id)
    (record { length = Some (length_at (key_of id) s.opened); digest = digest }))
    × IsSome s.own × (t.folder ≡ s.folder) × (t.own ≡ s.own) × (t.durability ≡ s.durability)
    × (t.failures ≡ s.failures) × OthersStay id s.opened t.opened
FolderCloses s id digest (Err OutOfMemory) t = t ≡ s
FolderCloses s id digest (Err StoreFault) t = t ≡ faulted s

-- As many bytes as the share has there, up to as many as asked for: a file that is too short is a
-- fault. The share's length is known then.
abbrev pub FolderReads : FolderState → ShareId → ℕ → ℕ → Result (List ℕ) StoreError
    → FolderState → Type 0
FolderReads s id offset len (Ok bytes) t =
    (length bytes ≡ min len (kept_length id t - offset)) × (is_known (kept_at id t) ≡ true)
    × LooksAt (same_key (key_of id)) s t
FolderReads s id offset len (Err OutOfMemory) t = LooksAt (same_key (key_of id)) s t
FolderReads s id offset len (Err StoreFault) t = LooksAt (same_key (key_of id)) (faulted s) t

-- All closed shares of a file. It is a fault where one of them could not be looked at: else one
-- that is there would count as gone. Only one whose length was not asked is looked at, so where all
-- are known a list is no fault.
abbrev pub FolderLists : FolderState → List ℕ → Result (List HeldShare) StoreError
    → FolderState → Type 0
FolderLists s index (Ok found) t =
    (found ≡ held_by (λ (k : KeptShare). k.digest) index t.closed) × LooksAt (has_index index) s t
FolderLists s index (Err OutOfMemory) t = LooksAt (has_index index) s t
FolderLists s index (Err StoreFault) t =
    HasUnasked index s.closed × LooksAt (has_index index) (faulted s) t

-- An open share is open no longer.
abbrev pub FolderLetsGo : FolderState → ShareId → FolderState → Type 0
FolderLetsGo s id t =
    (t.folder ≡ s.folder) × (t.own ≡ s.own) × (t.durability ≡ s.durability)
    × (t.closed ≡ s.closed) × (t.failures ≡ s.failures) × OthersStay id s.opened t.opened
    × (length_at (key_of id) t.opened ≡ 0)

abbrev pub FolderRestarts : FolderState → FolderState → Type 0
FolderRestarts s t = t ≡ record s { opened = [] }

-- A folder's room is its disk's, so no used bytes are reckoned.
abbrev pub folder_calls : Calls FolderState
folder_calls =
    record {
      told = λ s id. kept_digest id s;
      used = λ s. 0;
      write_gives = FolderWrites;
      close_gives = FolderCloses;
      read_gives = FolderReads;
      list_gives = FolderLists;
      let_go_gives = FolderLetsGo;
      restart_gives = FolderRestarts;
    }
