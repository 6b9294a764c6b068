use Rattle.std.proofs.Common.{take}
use Rattle.std.specs.List.{AllByRecursion}
use Rattle.share_scrub.specs.Clearing.{IsClearedOf}
use Rattle.share_scrub.specs.Counted.{GoesCounting}
use Rattle.share_scrub.proofs.mending.clear_files.Given as goal

-- what was counted so far is what was done, and each file so far is in nobody's way, or told
abbrev pub invariant-loop-file : goal.invariant-loop-file
invariant-loop-file g l =
    GoesCounting l.wanted l.fn.cleared l.cleared l.fn.files l.files
    × AllByRecursion (λ f. IsClearedOf l.wanted l.cleared l.files f f.kind) (take l.file-index l.listed)
