use Rattle.std.proofs.Common.{◌≡◌, map, take}
use Rattle.zfec_code.specs.Field.{point_of}
use Rattle.zfec_code.proofs.decoding.points_at.Given as goal

abbrev pub invariant-loop-number : goal.invariant-loop-number
invariant-loop-number l = l.points.items ≡ map point_of (take l.number-index l.numbers)
