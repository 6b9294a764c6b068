use Rattle.std.proofs.Common.{length}
use Rattle.catalogues.specs.Below.{IsBelow}
use Rattle.catalogues.proofs.below.is_below.Given as goal

abbrev pub invariant-loop-part : goal.invariant-loop-part
invariant-loop-part l = record {
  whole : IsBelow l.rest → IsBelow l.fn.name;
  rest : IsBelow l.fn.name → IsBelow l.rest;
}

abbrev pub decreases-loop-part : goal.decreases-loop-part
decreases-loop-part l = length l.rest
