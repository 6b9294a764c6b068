-- A call's outcome is handed on, and counted.
use Rattle.std.proofs.Common.{◌≡◌, sym, subst}
use Rattle.std.specs.Prelude.{Result}
use Rattle.share_store.specs.declared.error.StoreError.{StoreError}
use Rattle.share_folders.specs.Folder.{counted}
use Rattle.folder_keeping.specs.Store.{StoreState}

-- the store after the outcome was counted
abbrev pub after : {D F A : Type 0} → Result A StoreError → StoreState D F → StoreState D F
after r u =
    record { disk = u.disk; own = u.own; durability = u.durability; closed = u.closed; opened = u.opened; recent = u.recent; failures = counted r u.failures }

pub hand_on : {D F A : Type 0} (P : Result A StoreError → StoreState D F → Type 0) (q r : Result A StoreError) (u t : StoreState D F) → r ≡ q → t ≡ after q u → P q (after q u) → P r t
hand_on {D} {F} {A} P q r u t same is holds = subst (λ (p : Result A StoreError). P p t) (sym same) (subst (λ (w : StoreState D F). P q w) (sym is) holds)
