-- The numbers of the refusals, and their texts.
use Rattle.std.specs.Prelude.{ℕ, List, codes}
use Rattle.connections.specs.declared.address.AddressError.{AddressError}
use Rattle.connections.specs.declared.address.AddressError.TheVariants.{OutOfMemory, BadAddress}
use Rattle.connections.specs.declared.address.AddressError.TheVariants.{NotLocal}

abbrev pub refusal_number : AddressError → ℕ
refusal_number OutOfMemory = 1
refusal_number BadAddress = 103
refusal_number NotLocal = 104

abbrev pub refusal_text : AddressError → List ℕ
refusal_text OutOfMemory = codes "OutOfMemory"
refusal_text BadAddress = codes "BadAddress"
refusal_text NotLocal = codes "NotLocal"
