-- That a store in memory keeps, each of its calls being a step of its shelf: the proof that its
-- `impl` names, which may name nothing outside of specs.
use Rattle.std.specs.Prelude.{◌≡◌, ℕ, List, Result, Ok, Err}
use mathlib.Core.Path.{refl, subst, sym}
use mathlib.Core.Logic.{inr}
use Rattle.wire.specs.declared.message.ShareId.{ShareId}
use Rattle.wire.specs.declared.message.HeldShare.{HeldShare}
use Rattle.share_store.specs.declared.error.StoreError.{StoreError}
use Rattle.share_store.specs.declared.error.StoreError.TheVariants.{OutOfMemory, StoreFault}
use Rattle.share_store.specs.Shelf.{Writes, Closes, Reads, Lists}
use Rattle.share_store.specs.Calls.{AreKept}
use Rattle.share_store.specs.Memory.{MemoryState, faulted, memory_calls}
use Rattle.share_store.specs.Memory.{MemoryWrites, MemoryCloses, MemoryReads, MemoryLists}

stays : (s t : MemoryState) → t ≡ s → t.shelf ≡ s.shelf
stays s t same i = (same i).shelf

stays_faulted : (s t : MemoryState) → t ≡ faulted s → t.shelf ≡ s.shelf
stays_faulted s t same i = (same i).shelf

memory_writes : (s : MemoryState) (id : ShareId) (offset : ℕ) (bytes : List ℕ)
    (r : Result Unit StoreError) (t : MemoryState)
    → MemoryWrites s id offset bytes r t → Writes s.shelf id offset bytes r t.shelf
memory_writes s id offset bytes (Ok u) t h = h.1
memory_writes s id offset bytes (Err OutOfMemory) t h = stays s t h.1
memory_writes s id offset bytes (Err StoreFault) t h =
    subst (λ new. Writes s.shelf id offset bytes (Err StoreFault) new) (sym (stays_faulted s t h.1))
    ((λ other apart. refl), refl)

memory_closes : (s : MemoryState) (id : ShareId) (digest : List ℕ) (r : Result Unit StoreError)
    (t : MemoryState) → MemoryCloses s id digest r t → Closes s.shelf id digest r t.shelf
memory_closes s id digest (Ok u) t h = h.1
memory_closes s id digest (Err OutOfMemory) t h = stays s t h.1
memory_closes s id digest (Err StoreFault) t h =
    subst (λ new. Closes s.shelf id digest (Err StoreFault) new) (sym (stays_faulted s t h.1))
    (inr refl, (λ other apart. refl))

memory_reads : (s : MemoryState) (id : ShareId) (offset len : ℕ)
    (r : Result (List ℕ) StoreError) (t : MemoryState)
    → MemoryReads s id offset len r t → Reads s.shelf id offset len r t.shelf
memory_reads s id offset len (Ok bytes) t h = h.1
memory_reads s id offset len (Err OutOfMemory) t h = stays s t h.1
memory_reads s id offset len (Err StoreFault) t h = stays_faulted s t h.1

memory_lists : (s : MemoryState) (index : List ℕ) (r : Result (List HeldShare) StoreError)
    (t : MemoryState) → MemoryLists s index r t → Lists s.shelf index r t.shelf
memory_lists s index (Ok found) t h = h.1
memory_lists s index (Err OutOfMemory) t h = stays s t h.1
memory_lists s index (Err StoreFault) t h = stays_faulted s t h.1

pub memory_keeps : AreKept memory_calls (λ s. s.shelf)
memory_keeps = record {
  tells = λ s id. refl;
  sums = λ s. refl;
  writes = memory_writes;
  closes = memory_closes;
  reads = memory_reads;
  lists = memory_lists;
  lets_go = λ s id t h. h.0;
  restarts = λ s t h i. (h i).shelf.closed;
}
