-- What a store in memory does.
use Rattle.std.specs.Prelude.{◌≡◌, ℕ, ◌+◌, ◌-◌, ◌^◌, min, Bool, true, false, List, [], Result, Ok}
use Rattle.std.specs.Prelude.{Err}
use Rattle.wire.specs.declared.message.ShareId.{ShareId}
use Rattle.wire.specs.declared.message.HeldShare.{HeldShare}
use Rattle.share_store.specs.Shelf.{Shelf, digest_at, used, Writes, Closes, Reads, Lists, LetsGo}
use Rattle.share_store.specs.Calls.{Calls}
use Rattle.share_store.specs.declared.error.StoreError.{StoreError}
use Rattle.share_store.specs.declared.error.StoreError.TheVariants.{OutOfMemory, StoreFault}

-- `failing`: the next call that can fail does
pub record MemoryState : Type 0 where
  pub shelf : Shelf
  pub failures : ℕ
  pub failing : Bool

-- the same store after a fault, which it counts
abbrev pub faulted : MemoryState → MemoryState
faulted s =
    record { shelf = s.shelf; failures = min (s.failures + 1) (2 ^ 64 - 1); failing = false }

-- a call without a fault, which does R to the shelf
abbrev pub Steps : (Shelf → Shelf → Type 0) → MemoryState → MemoryState → Type 0
Steps R s t =
    (s.failing ≡ false) × R s.shelf t.shelf × (t.failures ≡ s.failures) × (t.failing ≡ false)

-- The fault comes exactly where it was asked for, and changes nothing of the shelf.
abbrev pub Gives : {A : Type 0} → (A → Shelf → Shelf → Type 0) → MemoryState → Result A StoreError
    → MemoryState → Type 0
Gives R s (Ok a) t = Steps (R a) s t
Gives R s (Err OutOfMemory) t = (s.failing ≡ false) × (t ≡ s)
Gives R s (Err StoreFault) t = (s.failing ≡ true) × (t ≡ faulted s)

abbrev pub MemoryWrites : MemoryState → ShareId → ℕ → List ℕ → Result Unit StoreError
    → MemoryState → Type 0
MemoryWrites s id offset bytes = Gives (λ u old new. Writes old id offset bytes (Ok u) new) s

abbrev pub MemoryCloses : MemoryState → ShareId → List ℕ → Result Unit StoreError
    → MemoryState → Type 0
MemoryCloses s id digest = Gives (λ u old new. Closes old id digest (Ok u) new) s

abbrev pub MemoryReads : MemoryState → ShareId → ℕ → ℕ → Result (List ℕ) StoreError
    → MemoryState → Type 0
MemoryReads s id offset len = Gives (λ bytes old new. Reads old id offset len (Ok bytes) new) s

abbrev pub MemoryLists : MemoryState → List ℕ → Result (List HeldShare) StoreError
    → MemoryState → Type 0
MemoryLists s index = Gives (λ found old new. Lists old index (Ok found) new) s

-- what was written to an open share is dropped
abbrev pub MemoryLetsGo : MemoryState → ShareId → MemoryState → Type 0
MemoryLetsGo s id t =
    LetsGo s.shelf id t.shelf × (t.failures ≡ s.failures) × (t.failing ≡ s.failing)

-- a restart drops what is open
abbrev pub MemoryRestarts : MemoryState → MemoryState → Type 0
MemoryRestarts s t =
    t ≡ record {
      shelf = record { closed = s.shelf.closed; opened = [] };
      failures = s.failures;
      failing = s.failing;
    }

abbrev pub memory_calls : Calls MemoryState
memory_calls =
    record {
      told = λ s id. digest_at id s.shelf.closed;
      used = λ s. used s.shelf.closed;
      write_gives = MemoryWrites;
      close_gives = MemoryCloses;
      read_gives = MemoryReads;
      list_gives = MemoryLists;
      let_go_gives = MemoryLetsGo;
      restart_gives = MemoryRestarts;
    }
