use Rattle.std.proofs.Common.{Contains, take}
use Rattle.share_source.specs.Candidates.{picked_numbers}
use Rattle.share_source.proofs.choosing.is_among.Given as goal

abbrev pub invariant-loop-position : goal.invariant-loop-position
invariant-loop-position l = ¬ Contains (picked_numbers l.numbers (take l.position-index l.positions)) l.number
