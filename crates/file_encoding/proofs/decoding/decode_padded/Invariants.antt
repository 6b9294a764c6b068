use Rattle.std.proofs.Common.{map}
use Rattle.file_encoding.specs.Making.{PaddedBelow}
use Rattle.file_encoding.proofs.decoding.decode_padded.Given as goal

abbrev pub invariant-loop-number : goal.invariant-loop-number
invariant-loop-number l =
    PaddedBelow l.geometry (map (λ s. s.0) l.blocks) (map (λ s. s.1.now) l.blocks) l.leaves l.text.items l.number
