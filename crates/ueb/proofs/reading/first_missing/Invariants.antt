use Rattle.std.proofs.Common.{List}
use Rattle.ueb.specs.Fields.{Field, AreFields}
use Rattle.ueb.specs.Reading.{IsMissing}
use Rattle.ueb.proofs.KeyOrder.{HoldsBefore}
use Rattle.ueb.proofs.reading.first_missing.Given as goal

abbrev pub invariant-loop-key : goal.invariant-loop-key
invariant-loop-key l = (fields : List Field) → AreFields l.bytes fields → HoldsBefore (λ key. IsMissing fields key → ⊥) l.key-index
