use Rattle.std.proofs.Common.{◌≡◌, ◌++◌, drop}
use Rattle.catalogues.specs.Names.{written}
use Rattle.catalogues.proofs.name.push_written.Given as goal

abbrev pub invariant-loop-byte : goal.invariant-loop-byte
invariant-loop-byte l = l.out.items ++ written (drop l.byte-index l.name) ≡ l.fn.out.items ++ written l.name
