-- A shelf, which is what a store that keeps is to its server: closed shares, which stay, and open
-- ones.
use Rattle.std.specs.Prelude.{◌≡◌, ◌⊎◌, ℕ, ◌==◌, ◌&&◌, nat_le, List, [], ◌++◌, Bool, false, Option}
use Rattle.std.specs.Prelude.{Result, Ok, Err, if◌then◌else◌, length, take, drop, sum_by, map}
use Rattle.std.specs.Prelude.{filter, option_map, unwrap_or}
use Rattle.std.specs.Ordering.{nat_cmp, ordering_then, is_eq}
use Rattle.std.specs.declared.cmp.Ordering.{Ordering}
use Rattle.std.specs.Cmp.Lexicographic.{slice_cmp}
use Rattle.std.specs.Map.{keys_of, lookup, values_of}
use Rattle.std.specs.List.Sorted.{IsStrictlySortedBy}
use Rattle.std.specs.BTreeMap.{insert_entry}
use Rattle.wire.specs.declared.message.ShareId.{ShareId}
use Rattle.wire.specs.declared.message.HeldShare.{HeldShare}
use Rattle.share_store.specs.declared.shelf.ClosedShare.{ClosedShare}
use Rattle.share_store.specs.declared.error.StoreError.{StoreError}
use Rattle.share_store.specs.declared.error.StoreError.TheVariants.{OutOfMemory, StoreFault}

-- a share's key in the order of shares: its storage index, and then its number
abbrev pub ShareKey : Type 0
ShareKey = List ℕ × ℕ

abbrev pub key_of : ShareId → ShareKey
key_of id = (id.index, id.share)

abbrev pub order : ShareKey → ShareKey → Ordering
order a b = ordering_then (slice_cmp nat_cmp a.0 b.0) (nat_cmp a.1 b.1)

abbrev pub same_key : ShareKey → ShareKey → Bool
same_key a b = is_eq (order a b)

-- The keys of both lists rise. A share stands at most once in each.
pub record Shelf : Type 0 where
  pub closed : List (ShareKey × ClosedShare)
  pub opened : List (ShareKey × List ℕ)

-- The keys of the shares rise, so that no share stands twice.
abbrev pub AreRising : List (ShareKey × ClosedShare) → Type 0
AreRising closed = IsStrictlySortedBy order (keys_of closed)

-- what stands at a key
abbrev pub at : {A : Type 0} → ShareKey → List (ShareKey × A) → Option A
at key = lookup (same_key key)

abbrev pub closed_at : ShareId → List (ShareKey × ClosedShare) → Option ClosedShare
closed_at id = at (key_of id)

abbrev pub digest_at : ShareId → List (ShareKey × ClosedShare) → Option (List ℕ)
digest_at id cs = option_map (λ (c : ClosedShare). c.digest) (closed_at id cs)

-- the bytes of a closed share: none where it is not closed
abbrev pub bytes_at : ShareId → List (ShareKey × ClosedShare) → List ℕ
bytes_at id cs = unwrap_or (option_map (λ (c : ClosedShare). c.bytes) (closed_at id cs)) []

-- the bytes written to an open share: none where there is no such share
abbrev pub written_at : ShareKey → List (ShareKey × List ℕ) → List ℕ
written_at key os = unwrap_or (at key os) []

abbrev pub written : ShareId → List (ShareKey × List ℕ) → List ℕ
written id = written_at (key_of id)

-- is the key one of a storage index?
abbrev pub is_under : List ℕ → ShareKey → Bool
is_under index key = is_eq (slice_cmp nat_cmp index key.0) && nat_le key.1 255

-- the entries under a storage index with their digests, lowest number first
abbrev pub held_by : {A : Type 0} → (A → List ℕ) → List ℕ → List (ShareKey × A) → List HeldShare
held_by {A} digest_of index es =
    map (λ (e : ShareKey × A). record { share = e.0.1; digest = digest_of e.1 })
    (filter (λ (e : ShareKey × A). is_under index e.0) es)

-- the closed shares under a storage index, lowest number first
abbrev pub held : List ℕ → List (ShareKey × ClosedShare) → List HeldShare
held = held_by (λ (c : ClosedShare). c.digest)

-- how many bytes the closed shares have
abbrev pub used : List (ShareKey × ClosedShare) → ℕ
used cs = sum_by (λ (c : ClosedShare). length c.bytes) (values_of cs)

-- every open share at another key is as it was
abbrev pub IsPutAt : ShareKey → List (ShareKey × List ℕ) → List (ShareKey × List ℕ) → Type 0
IsPutAt key old new =
    (other : ShareKey) → same_key key other ≡ false
    → written_at other new ≡ written_at other old

-- every other open share is as it was
abbrev pub OthersStay : ShareId → List (ShareKey × List ℕ) → List (ShareKey × List ℕ) → Type 0
OthersStay id = IsPutAt (key_of id)

-- the bytes of an open share after a write: at offset 0 it begins anew
abbrev pub written_after : ShareId → ℕ → List ℕ → List (ShareKey × List ℕ) → List ℕ
written_after id offset bytes os = if offset == 0 then bytes else written id os ++ bytes

-- After a fault the open share may hold anything.
abbrev pub Writes : Shelf → ShareId → ℕ → List ℕ → Result Unit StoreError → Shelf → Type 0
Writes old id offset bytes (Ok u) new =
    (written id new.opened ≡ written_after id offset bytes old.opened)
    × OthersStay id old.opened new.opened
    × (new.closed ≡ old.closed)
Writes old id offset bytes (Err OutOfMemory) new = new ≡ old
Writes old id offset bytes (Err StoreFault) new =
    OthersStay id old.opened new.opened × (new.closed ≡ old.closed)

-- the closed shares, with exactly the bytes that were written to one more under its digest
abbrev pub with_closed : Shelf → ShareId → List ℕ → List (ShareKey × ClosedShare)
with_closed old id digest =
    insert_entry order old.closed (key_of id)
    (record { bytes = written id old.opened; digest = digest })

-- After a fault the share is closed as it was to be, or not at all.
abbrev pub Closes : Shelf → ShareId → List ℕ → Result Unit StoreError → Shelf → Type 0
Closes old id digest (Ok u) new =
    (new.closed ≡ with_closed old id digest) × OthersStay id old.opened new.opened
Closes old id digest (Err OutOfMemory) new = new ≡ old
Closes old id digest (Err StoreFault) new =
    ((new.closed ≡ with_closed old id digest) ⊎ (new.closed ≡ old.closed))
    × OthersStay id old.opened new.opened

-- The bytes from an offset on, as many as asked for, and fewer at the share's end.
abbrev pub Reads : Shelf → ShareId → ℕ → ℕ → Result (List ℕ) StoreError → Shelf → Type 0
Reads old id offset len (Ok bytes) new =
    (bytes ≡ take len (drop offset (bytes_at id old.closed))) × (new ≡ old)
Reads old id offset len (Err e) new = new ≡ old

abbrev pub Lists : Shelf → List ℕ → Result (List HeldShare) StoreError → Shelf → Type 0
Lists old index (Ok found) new = (found ≡ held index old.closed) × (new ≡ old)
Lists old index (Err e) new = new ≡ old

-- Nothing is left of what was written to an open share.
abbrev pub LetsGo : Shelf → ShareId → Shelf → Type 0
LetsGo old id new =
    (written id new.opened ≡ []) × OthersStay id old.opened new.opened
    × (new.closed ≡ old.closed)

-- A restart keeps the closed shares. What was open may be gone.
abbrev pub Restarts : Shelf → Shelf → Type 0
Restarts old new = new.closed ≡ old.closed
