-- The numbers of the loop's refusals, and their texts.
use Rattle.std.specs.Prelude.{ℕ, List, codes}
use Rattle.local_grid.specs.declared.error.LoopError.{LoopError}
use Rattle.local_grid.specs.declared.error.LoopError.TheVariants.{OutOfMemory, TurnLimit}

abbrev pub refusal_number : LoopError → ℕ
refusal_number OutOfMemory = 1
refusal_number TurnLimit = 92

abbrev pub refusal_text : LoopError → List ℕ
refusal_text OutOfMemory = codes "OutOfMemory"
refusal_text TurnLimit = codes "TurnLimit"
