use Rattle.share_scrub.specs.Counted.{GoesCounting}
use Rattle.share_scrub.proofs.mending.settle_files.Given as goal

-- what was counted so far is what was done
abbrev pub invariant-loop-file : goal.invariant-loop-file
invariant-loop-file g l = GoesCounting l.wanted l.fn.cleared l.cleared l.fn.files l.files
