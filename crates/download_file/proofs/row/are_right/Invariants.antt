use Rattle.std.proofs.Common.{map}
use Rattle.download_file.specs.Rows.{AreRowsProved}
use Rattle.download_file.proofs.row.are_right.Given as goal

abbrev pub invariant-loop-k : goal.invariant-loop-k
invariant-loop-k l = AreRowsProved l.readers l.positions l.number (map (λ r. r.items) l.rows) l.size l.k
