use Rattle.std.proofs.Common.{take}
use Rattle.grid_marks.specs.Addresses.{AreOf}
use Rattle.grid_marks.proofs.addresses.refuse_others.Given as goal

abbrev pub invariant-loop-file : goal.invariant-loop-file
invariant-loop-file l = AreOf l.servers.start l.servers.«end» (take l.file-index l.elsewhere)
