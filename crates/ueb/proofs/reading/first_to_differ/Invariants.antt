use Rattle.std.proofs.Common.{List}
use Rattle.ueb.specs.Fields.{Field, AreFields}
use Rattle.ueb.specs.Reading.{HasSuiting}
use Rattle.ueb.proofs.KeyOrder.{HoldsBefore}
use Rattle.ueb.proofs.reading.first_to_differ.Given as goal

abbrev pub invariant-loop-key : goal.invariant-loop-key
invariant-loop-key l = (fields : List Field) → AreFields l.bytes fields → HoldsBefore (HasSuiting l.block fields) l.key-index
