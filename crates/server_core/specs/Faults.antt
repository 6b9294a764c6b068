-- The numbers of a server's faults, their texts, and which one a fault of its store is.
use Rattle.std.specs.Prelude.{ℕ, List, codes}
use Rattle.server_core.specs.declared.error.ServerFault.{ServerFault}
use Rattle.server_core.specs.declared.error.ServerFault.TheVariants.{OutOfMemory, StoreFault}
use Rattle.share_store.specs.declared.error.StoreError.{StoreError}
use Rattle.share_store.specs.declared.error.StoreError.TheVariants as stores

abbrev pub fault_number : ServerFault → ℕ
fault_number OutOfMemory = 1
fault_number StoreFault = 60

abbrev pub fault_text : ServerFault → List ℕ
fault_text OutOfMemory = codes "OutOfMemory"
fault_text StoreFault = codes "StoreFault"

-- a server's fault where its store's call failed
abbrev pub fault_of : StoreError → ServerFault
fault_of stores.OutOfMemory = OutOfMemory
fault_of stores.StoreFault = StoreFault
