use Rattle.std.proofs.Common.{◌≡◌, take}
use Rattle.download_file.specs.State.{numbers_of}
use Rattle.download_file.proofs.group.share_numbers.Given as goal

abbrev pub invariant-loop-position : goal.invariant-loop-position
invariant-loop-position l = l.numbers.items ≡ numbers_of l.readers (take l.position-index l.positions)
