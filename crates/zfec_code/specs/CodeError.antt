-- The number of each refusal.
use Rattle.std.specs.Prelude.{ℕ}
use Rattle.zfec_code.specs.declared.CodeError.{CodeError}
use Rattle.zfec_code.specs.declared.CodeError.TheVariants.{OutOfMemory, BadParameters}
use Rattle.zfec_code.specs.declared.CodeError.TheVariants.{RepeatedShare, ShareOutOfRange}
use Rattle.zfec_code.specs.declared.CodeError.TheVariants.{LengthMismatch}

abbrev pub refusal_number : CodeError → ℕ
refusal_number OutOfMemory = 1
refusal_number BadParameters = 2
refusal_number RepeatedShare = 3
refusal_number ShareOutOfRange = 4
refusal_number LengthMismatch = 5
