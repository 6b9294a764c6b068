use Rattle.std.proofs.Common.{length}
use Rattle.ueb.proofs.Walk.{WalkedTo}
use Rattle.ueb.proofs.fields.scan.Given as goal

abbrev pub invariant-fields : goal.invariant-fields
invariant-fields l = WalkedTo l.bytes l.last l.rest

abbrev pub decreases-fields : goal.decreases-fields
decreases-fields l = length l.rest
