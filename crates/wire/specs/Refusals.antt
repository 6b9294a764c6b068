-- The numbers of the refusals, and their texts.
use Rattle.std.specs.Prelude.{ℕ, List, codes}
use Rattle.wire.specs.declared.error.WireError.{WireError}
use Rattle.wire.specs.declared.error.WireError.TheVariants.{OutOfMemory, BadLength, BadKind}
use Rattle.wire.specs.declared.error.WireError.TheVariants.{BadFields}

abbrev pub refusal_number : WireError → ℕ
refusal_number OutOfMemory = 1
refusal_number BadLength = 50
refusal_number BadKind = 51
refusal_number BadFields = 52

abbrev pub refusal_text : WireError → List ℕ
refusal_text OutOfMemory = codes "OutOfMemory"
refusal_text BadLength = codes "BadLength"
refusal_text BadKind = codes "BadKind"
refusal_text BadFields = codes "BadFields"
