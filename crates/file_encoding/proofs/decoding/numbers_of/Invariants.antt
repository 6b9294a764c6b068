use Rattle.std.proofs.Common.{◌≡◌, map, take}
use Rattle.file_encoding.proofs.decoding.numbers_of.Given as goal

abbrev pub invariant-loop-number : goal.invariant-loop-number
invariant-loop-number l = l.numbers.items ≡ map (λ s. s.0) (take l.number-index l.blocks)
