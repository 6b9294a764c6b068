use Rattle.std.proofs.Common.{length}
use Rattle.catalogues.specs.Unwritten.{IsWritten}
use Rattle.catalogues.proofs.name.is_written.Given as goal

abbrev pub invariant-loop-rest : goal.invariant-loop-rest
invariant-loop-rest l = record {
  whole : IsWritten l.rest → IsWritten l.fn.text;
  rest : IsWritten l.fn.text → IsWritten l.rest;
}

abbrev pub decreases-loop-rest : goal.decreases-loop-rest
decreases-loop-rest l = length l.rest
