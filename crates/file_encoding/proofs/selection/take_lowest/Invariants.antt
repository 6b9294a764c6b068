use Rattle.std.proofs.Common.{map}
use Rattle.file_encoding.specs.LowestShares.{AreLowestAt}
use Rattle.file_encoding.proofs.selection.take_lowest.Given as goal

abbrev pub invariant-loop-number : goal.invariant-loop-number
invariant-loop-number l = AreLowestAt l.cap (map (λ s. s.0) l.shares) (map (λ s. s.1.now) l.shares) l.number l.positions.items
