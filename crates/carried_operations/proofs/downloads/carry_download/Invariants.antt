use Rattle.carried_operations.specs.Written.{IsWritten}
use Rattle.carried_operations.proofs.downloads.carry_download.Given as goal

abbrev pub invariant-turns : goal.invariant-turns
invariant-turns g l =
    IsWritten g.G.Outside.calls l.fn.download l.fn.outside (g.O.Write.contents l.fn.out) l.carried l.outside (g.O.Write.contents l.out)
