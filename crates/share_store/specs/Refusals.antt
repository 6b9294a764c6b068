-- The numbers of the refusals, their texts, and which one a fault of a file is.
use Rattle.std.specs.Prelude.{ℕ, List, codes}
use Rattle.std.specs.declared.io.ErrorKind.{ErrorKind}
use Rattle.std.specs.declared.io.ErrorKind.TheVariants as kinds
use Rattle.share_store.specs.declared.error.StoreError.{StoreError}
use Rattle.share_store.specs.declared.error.StoreError.TheVariants.{OutOfMemory, StoreFault}

abbrev pub refusal_number : StoreError → ℕ
refusal_number OutOfMemory = 1
refusal_number StoreFault = 60

abbrev pub refusal_text : StoreError → List ℕ
refusal_text OutOfMemory = codes "OutOfMemory"
refusal_text StoreFault = codes "StoreFault"

-- a call on a file fails for want of memory, or it is a fault
abbrev pub refusal_of : ErrorKind → StoreError
refusal_of kinds.OutOfMemory = OutOfMemory
refusal_of _ = StoreFault
