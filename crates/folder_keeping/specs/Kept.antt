-- What stays kept, whatever happens to a store.
use Rattle.std.specs.Prelude.{◌≡◌, ◌⊎◌, ◌==◌, ◌++◌, ℕ, List, [], ◌∷◌, take, drop, fold, true, false}
use Rattle.std.specs.Prelude.{Option, Some, None, IsSome, Ok, Err, IfOk, if◌then◌else◌, unwrap_or}
use Rattle.std.specs.Prelude.{All, Contains, ⊤}
use Rattle.wire.specs.declared.message.ShareId.{ShareId}
use Rattle.wire.specs.declared.message.HeldShare.{HeldShare}
use Rattle.disks.specs.Names.{Name}
use Rattle.disks.specs.Folder.{IsDurable, StandsFor}
use Rattle.share_store.specs.Shelf.{ShareKey, at, is_under, key_of, same_key}
use Rattle.share_folders.specs.declared.disk.Durability.TheVariants.{Synced}
use Rattle.share_folders.specs.Listed.{IsAlone}
use Rattle.share_folders.specs.Names.{IsNamed, IsShareKey, closed_name}
use Rattle.share_folders.specs.Stored.{AreTwo}
use Rattle.folder_keeping.specs.Store.{Facts, StoreState, Has, HasWritten, IsSyncing}
use Rattle.folder_keeping.specs.Steps.{IsOpened, Step, Runs}
use Rattle.folder_keeping.specs.Steps.{Wrote, Closed, Read, Listed, Went, Restarted, Opened}

-- ---- which calls are orderly

-- What was written to each share since it was begun: `None` where that is not known, since nothing
-- was begun, the share was closed, or a write or a close of it failed.
abbrev pub Contents : Type 0
Contents = ShareKey → Option (List ℕ)

abbrev pub nothing_known : Contents
nothing_known key = None

abbrev pub put_content : ShareKey → Option (List ℕ) → Contents → Contents
put_content key content known other = if same_key key other then content else known other

-- what is written to a share after a write: at offset 0 it begins anew
abbrev pub more_content : ℕ → List ℕ → Option (List ℕ) → List ℕ
more_content offset bytes before = (if offset == 0 then [] else unwrap_or before []) ++ bytes

abbrev pub contents_after : Contents → Step → Contents
contents_after known (Wrote id offset bytes (Ok u)) =
    put_content (key_of id) (Some (more_content offset bytes (known (key_of id)))) known
contents_after known (Wrote id offset bytes (Err e)) = put_content (key_of id) None known
contents_after known (Closed id digest r) = put_content (key_of id) None known
contents_after known (Read id offset count r) = known
contents_after known (Listed index r) = known
contents_after known (Went id) = put_content (key_of id) None known
contents_after known Restarted = nothing_known
contents_after known (Opened names) = nothing_known

abbrev pub contents_by : List Step → Contents → Contents
contents_by steps known = fold contents_after known steps

-- A share is begun at offset 0, and added to and closed only while it is known what was written to
-- it. So none is closed again, or added to, after that failed.
abbrev pub IsOrderly : Contents → Step → Type 0
IsOrderly known (Wrote id offset bytes r) =
    IsShareKey (key_of id) × ((offset ≡ 0) ⊎ IsSome (known (key_of id)))
IsOrderly known (Closed id digest r) = IsNamed (key_of id) digest × IsSome (known (key_of id))
IsOrderly known (Read id offset count r) = ⊤
IsOrderly known (Listed index r) = ⊤
IsOrderly known (Went id) = IsShareKey (key_of id)
IsOrderly known Restarted = ⊤
IsOrderly known (Opened names) = ⊤

abbrev pub AreOrderly : Contents → List Step → Type 0
AreOrderly known [] = ⊤
AreOrderly known (step ∷ steps) =
    IsOrderly known step × AreOrderly (contents_after known step) steps

-- These are the contents of the files of the open shares, and no file is one of two.
pub record AreOpen {D F : Type 0} (d : Facts D F) (s : StoreState D F) (known : Contents) : Type 0
  where
    pub written : (key : ShareKey) (bytes : List ℕ) → IsShareKey key → known key ≡ Some bytes
        → HasWritten d key s bytes
    pub two : (key other : ShareKey) → IsShareKey key → IsShareKey other
        → same_key key other ≡ false → IsSome (known key) → IsSome (known other)
        → AreTwo d.inode (at key s.opened) (at other s.opened)

-- ---- what is kept

-- A share is safe: the store has it, and its bytes stand under its name now and after each crash,
-- where they are relied on.
pub record IsSafe {D F : Type 0} (d : Facts D F) (s : StoreState D F) (key : ShareKey)
    (digest bytes : List ℕ) : Type 0 where
  pub valid : IsNamed key digest
  pub has : Has d s key digest bytes
  pub durable : IsDurable (d.folder s.disk) (closed_name key digest) bytes

-- What a step tells of the share is so: a read that goes well gives its bytes from the offset on,
-- and a list under its storage index that goes well names it with its digest.
abbrev pub IsTold : ShareKey → List ℕ → List ℕ → Step → Type 0
IsTold key digest bytes (Read id offset count r) =
    key_of id ≡ key → IfOk r (λ (got : List ℕ). got ≡ take count (drop offset bytes))
IsTold key digest bytes (Listed index r) =
    is_under index key ≡ true → IfOk r
    (λ (found : List HeldShare). Contains found (record { share = key.1; digest = digest }))
IsTold key digest bytes _ = ⊤

-- Where a store is opened, no other closed name of the share is found.
abbrev pub IsFoundAlone : ShareKey → List ℕ → Step → Type 0
IsFoundAlone key digest (Opened names) = IsAlone names key digest
IsFoundAlone key digest _ = ⊤

-- The share is safe after these steps, and all that they told of it is so.
pub record StaysSafe {D F : Type 0} (d : Facts D F) (steps : List Step) (t : StoreState D F)
    (key : ShareKey) (digest bytes : List ℕ) : Type 0 where
  pub safe : IsSafe d t key digest bytes
  pub told : All (IsTold key digest bytes) steps

-- ---- the laws

-- What is safe stays so through each run over a disk that is honest to its end, of stores that are
-- synced where they take shares.
abbrev pub SafeStay : {D F : Type 0} → Facts D F → Type 0
SafeStay {D} {F} d =
    (steps : List Step) (s t : StoreState D F) (known : Contents) → Runs d steps s t
    → d.honest t.disk → IsSyncing s → AreOpen d s known → AreOrderly known steps
    → (key : ShareKey) (digest bytes : List ℕ) → IsSafe d s key digest bytes
    → All (IsFoundAlone key digest) steps → StaysSafe d steps t key digest bytes

-- What a synced store finds when it is opened, with its bytes on the disk, is safe then, where it
-- is relied on and no other closed name of the share is found.
abbrev pub FoundAreSafe : {D F : Type 0} → Facts D F → Type 0
FoundAreSafe {D} {F} d =
    (disk : D) (names : List Name) (t : StoreState D F) → IsOpened d disk names t
    → d.honest t.disk → t.durability ≡ Synced
    → (key : ShareKey) (digest bytes : List ℕ) → IsNamed key digest
    → d.relied (closed_name key digest) bytes ≡ true
    → StandsFor (d.folder disk) bytes ((d.folder disk).found (closed_name key digest))
    → IsAlone names key digest → IsSafe d t key digest bytes

-- What a close confirmed, and is relied on, is there after each crash: whatever calls, crashes and
-- openings came before, and whatever came after.
abbrev pub ConfirmedStay : {D F : Type 0} → Facts D F → Type 0
ConfirmedStay {D} {F} d =
    (before after : List Step) (id : ShareId) (digest bytes : List ℕ) (s t : StoreState D F)
    → Runs d (before ++ Closed id digest (Ok tt) ∷ after) s t
    → d.honest t.disk → IsSyncing s
    → AreOrderly nothing_known (before ++ Closed id digest (Ok tt) ∷ after)
    → contents_by before nothing_known (key_of id) ≡ Some bytes
    → d.relied (closed_name (key_of id) digest) bytes ≡ true
    → All (IsFoundAlone (key_of id) digest) after
    → StaysSafe d after t (key_of id) digest bytes
