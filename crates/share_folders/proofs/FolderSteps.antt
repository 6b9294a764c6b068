-- A call of a store over files, counted.
use Rattle.std.proofs.Common.{◌≡◌, ℕ, ◌+◌, ◌^◌, ◌-◌, ◌==◌, List, length, refl, sym, ap, subst}
use Rattle.std.specs.Prelude.{Some, IsSome, Result, Ok, Err, IfOk, IsErrOf, OnErr, OnOk, min, if◌then◌else◌}
use Rattle.std.specs.BTreeMap.{insert_entry}
use Rattle.wire.specs.declared.message.HeldShare.{HeldShare}
use Rattle.wire.specs.declared.message.ShareId.{ShareId}
use Rattle.share_store.specs.declared.error.StoreError.{StoreError}
use Rattle.share_store.specs.declared.error.StoreError.TheVariants.{OutOfMemory, StoreFault}
use Rattle.share_store.specs.Shelf.{held_by, key_of, order}
use Rattle.share_folders.specs.declared.table.KeptShare.{KeptShare}
use Rattle.share_folders.specs.Folder.{FolderState, FolderCloses, FolderLists, FolderWrites, LooksAt, OthersStay, counted, faulted, length_at}
use Rattle.share_folders.specs.Table.{HasUnasked, has_index}

-- the state of a store after its call's outcome was counted
abbrev pub after : {A : Type 0} → Result A StoreError → FolderState → FolderState
after r u = record u { failures = counted r u.failures }

faulted_looks : (index : List ℕ) (s u : FolderState) → LooksAt (has_index index) s u
    → LooksAt (has_index index) (faulted s) (faulted u)
faulted_looks index s u looks = record {
  seen = looks.seen;
  others = looks.others;
  folder = looks.folder;
  own = looks.own;
  durability = looks.durability;
  opened = looks.opened;
  failures = ap (λ (n : ℕ). min (n + 1) (2 ^ 64 - 1)) looks.failures;
}

lists_after : (q : Result (List HeldShare) StoreError) (index : List ℕ) (s u : FolderState) → IfOk q (λ (found : List HeldShare). found ≡ held_by (λ (k : KeptShare). k.digest) index u.closed)
    → (IsErrOf q StoreFault → HasUnasked index s.closed) → LooksAt (has_index index) s u → FolderLists s index q (after q u)
lists_after (Ok found) index s u told cause looks = (told, looks)
lists_after (Err OutOfMemory) index s u told cause looks = looks
lists_after (Err StoreFault) index s u told cause looks = (cause refl, faulted_looks index s u looks)

pub lists : (r q : Result (List HeldShare) StoreError) (index : List ℕ) (s u t : FolderState) → r ≡ q → t ≡ after q u
    → IfOk q (λ (found : List HeldShare). found ≡ held_by (λ (k : KeptShare). k.digest) index u.closed) → (IsErrOf q StoreFault → HasUnasked index s.closed)
    → LooksAt (has_index index) s u → FolderLists s index r t
lists r q index s u t same is told cause looks =
    subst (λ (p : Result (List HeldShare) StoreError). FolderLists s index p t) (sym same)
    (subst (λ (w : FolderState). FolderLists s index q w) (sym is) (lists_after q index s u told cause looks))

pub writes : (r q : Result Unit StoreError) (id : ShareId) (offset : ℕ) (bytes : List ℕ) (s u t : FolderState) → r ≡ q → t ≡ after q u
    → u.folder ≡ s.folder → u.own ≡ s.own → u.durability ≡ s.durability → u.closed ≡ s.closed → u.failures ≡ s.failures → OthersStay id s.opened u.opened → OnOk q (IsSome s.own)
    → OnOk q (length_at (key_of id) u.opened ≡ (if offset == 0 then 0 else length_at (key_of id) s.opened) + length bytes) → FolderWrites s id offset bytes r t
writes r q id offset bytes s u t same is folder own durability closed failures others takes long =
    subst (λ (p : Result Unit StoreError). FolderWrites s id offset bytes p t) (sym same)
    (subst (λ (w : FolderState). FolderWrites s id offset bytes q w) (sym is) (folder, own, durability, closed, ap (counted q) failures, others, takes, long))

closes_after : (q : Result Unit StoreError) (id : ShareId) (digest : List ℕ) (s u : FolderState) → u.folder ≡ s.folder → u.own ≡ s.own → u.durability ≡ s.durability → u.failures ≡ s.failures
    → OnOk q (u.closed ≡ insert_entry order s.closed (key_of id) (record { length = Some (length_at (key_of id) s.opened); digest = digest })) → OnOk q (IsSome s.own)
    → OthersStay id s.opened u.opened → OnErr q (u.closed ≡ s.closed) → OnErr q (u.opened ≡ s.opened) → FolderCloses s id digest q (after q u)
closes_after (Ok v) id digest s u folder own durability failures closed takes others err_closed err_opened = (closed, takes, folder, own, durability, failures, others)
closes_after (Err OutOfMemory) id digest s u folder own durability failures closed takes others err_closed err_opened =
    λ i. record { folder = folder i; own = own i; durability = durability i; closed = err_closed i; opened = err_opened i; failures = failures i }
closes_after (Err StoreFault) id digest s u folder own durability failures closed takes others err_closed err_opened =
    λ i. record { folder = folder i; own = own i; durability = durability i; closed = err_closed i; opened = err_opened i; failures = min (failures i + 1) (2 ^ 64 - 1) }

pub closes : (r q : Result Unit StoreError) (id : ShareId) (digest : List ℕ) (s u t : FolderState) → r ≡ q → t ≡ after q u → u.folder ≡ s.folder → u.own ≡ s.own → u.durability ≡ s.durability → u.failures ≡ s.failures
    → OnOk q (u.closed ≡ insert_entry order s.closed (key_of id) (record { length = Some (length_at (key_of id) s.opened); digest = digest })) → OnOk q (IsSome s.own)
    → OthersStay id s.opened u.opened → OnErr q (u.closed ≡ s.closed) → OnErr q (u.opened ≡ s.opened) → FolderCloses s id digest r t
closes r q id digest s u t same is folder own durability failures closed takes others err_closed err_opened =
    subst (λ (p : Result Unit StoreError). FolderCloses s id digest p t) (sym same)
    (subst (λ (w : FolderState). FolderCloses s id digest q w) (sym is) (closes_after q id digest s u folder own durability failures closed takes others err_closed err_opened))
