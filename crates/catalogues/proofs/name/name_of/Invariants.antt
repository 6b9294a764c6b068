use Rattle.std.proofs.Common.{◌≡◌, ◌++◌, length, false}
use Rattle.catalogues.specs.Unwritten.{IsWritten, unwritten_from}
use Rattle.catalogues.proofs.name.name_of.Given as goal

abbrev pub invariant-loop-byte : goal.invariant-loop-byte
invariant-loop-byte l = record {
  same : l.name.items ++ unwritten_from false l.rest ≡ unwritten_from false l.text;
  left : IsWritten l.rest;
}

abbrev pub decreases-loop-byte : goal.decreases-loop-byte
decreases-loop-byte l = length l.rest
