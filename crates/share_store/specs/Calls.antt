-- What a store's calls do, as relations between the state before a call and the state after it.
use Rattle.std.specs.Prelude.{◌≡◌, ℕ, List, Option, Result}
use Rattle.wire.specs.declared.message.ShareId.{ShareId}
use Rattle.wire.specs.declared.message.HeldShare.{HeldShare}
use Rattle.share_store.specs.declared.error.StoreError.{StoreError}
use Rattle.share_store.specs.Shelf.{Shelf, digest_at, used, Writes, Closes, Reads, Lists, LetsGo}
use Rattle.share_store.specs.Shelf.{Restarts}

-- `told` and `used` are what the store tells of a state: the digest of a share that it says is
-- closed, and the bytes that it says the closed shares have.
pub record Calls (S : Type 0) : Type 1 where
  pub told : S → ShareId → Option (List ℕ)
  pub used : S → ℕ
  pub write_gives : S → ShareId → ℕ → List ℕ → Result Unit StoreError → S → Type 0
  pub close_gives : S → ShareId → List ℕ → Result Unit StoreError → S → Type 0
  pub read_gives : S → ShareId → ℕ → ℕ → Result (List ℕ) StoreError → S → Type 0
  pub list_gives : S → List ℕ → Result (List HeldShare) StoreError → S → Type 0
  pub let_go_gives : S → ShareId → S → Type 0
  pub restart_gives : S → S → Type 0

-- the calls of a store that is its shelf
abbrev pub shelf_calls : Calls Shelf
shelf_calls =
    record {
      told = λ s id. digest_at id s.closed;
      used = λ s. used s.closed;
      write_gives = Writes;
      close_gives = Closes;
      read_gives = Reads;
      list_gives = Lists;
      let_go_gives = LetsGo;
      restart_gives = Restarts;
    }

-- Each call is the shelf's.
pub record AreKept {S : Type 0} (calls : Calls S) (shelf : S → Shelf) : Type 0 where
  pub tells : (s : S) (id : ShareId) → calls.told s id ≡ digest_at id (shelf s).closed
  pub sums : (s : S) → calls.used s ≡ used (shelf s).closed
  pub writes : (s : S) (id : ShareId) (offset : ℕ) (bytes : List ℕ) (r : Result Unit StoreError)
      (t : S) → calls.write_gives s id offset bytes r t
      → Writes (shelf s) id offset bytes r (shelf t)
  pub closes : (s : S) (id : ShareId) (digest : List ℕ) (r : Result Unit StoreError) (t : S)
      → calls.close_gives s id digest r t → Closes (shelf s) id digest r (shelf t)
  pub reads : (s : S) (id : ShareId) (offset len : ℕ) (r : Result (List ℕ) StoreError) (t : S)
      → calls.read_gives s id offset len r t → Reads (shelf s) id offset len r (shelf t)
  pub lists : (s : S) (index : List ℕ) (r : Result (List HeldShare) StoreError) (t : S)
      → calls.list_gives s index r t → Lists (shelf s) index r (shelf t)
  pub lets_go : (s : S) (id : ShareId) (t : S) → calls.let_go_gives s id t
      → LetsGo (shelf s) id (shelf t)
  pub restarts : (s t : S) → calls.restart_gives s t → Restarts (shelf s) (shelf t)
