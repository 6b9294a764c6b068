use Rattle.std.proofs.Common.{length, List}
use Rattle.ueb.specs.Fields.{Field, AreFields}
use Rattle.ueb.proofs.Walk.{Remains}
use Rattle.ueb.proofs.fields.find.Given as goal

abbrev pub invariant-loop-key : goal.invariant-loop-key
invariant-loop-key l = (fields : List Field) → AreFields l.bytes fields → Remains l.name fields l.rest

abbrev pub decreases-loop-key : goal.decreases-loop-key
decreases-loop-key l = length l.rest
