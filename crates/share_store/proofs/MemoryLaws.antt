-- A store in memory that lists its shares.
use Rattle.std.proofs.Common.{rules, ◌≡◌, ℕ, false, List, ap, ◌∙◌, Result, Ok, Err}
use Rattle.std.specs.Prelude.{IfOk, IsOkUnless}
use Rattle.wire.specs.declared.message.HeldShare.{HeldShare}
use Rattle.share_store.specs.declared.error.StoreError.{StoreError}
use Rattle.share_store.specs.declared.error.StoreError.TheVariants.{OutOfMemory, StoreFault}
use Rattle.share_store.specs.Shelf.{held}
use Rattle.share_store.specs.Memory.{MemoryState, MemoryLists}

pub lists_from : (s t : MemoryState) (index : List ℕ) (r : Result (List HeldShare) StoreError) → s.failing ≡ false → t ≡ s
    → IfOk r (λ found. found ≡ held index t.shelf.closed) → IsOkUnless r OutOfMemory → MemoryLists s index r t
lists_from s t index (Ok found) works same value memory =
    (works, (value ∙ ap (λ (m : MemoryState). held index m.shelf.closed) same, ap (λ (m : MemoryState). m.shelf) same), ap (λ (m : MemoryState). m.failures) same, ap (λ (m : MemoryState). m.failing) same ∙ works)
lists_from s t index (Err OutOfMemory) works same value memory = (works, same)
lists_from s t index (Err StoreFault) works same value memory = search rules
