use Rattle.std.proofs.Common.{◌≡◌, take}
use Rattle.share_source.specs.Candidates.{picked_numbers}
use Rattle.share_source.proofs.reading.pick_numbers.Given as goal

abbrev pub invariant-loop-position : goal.invariant-loop-position
invariant-loop-position l = l.picked.items ≡ picked_numbers l.numbers (take l.position-index l.positions)
