use Rattle.share_source.proofs.Chosen.{AreChosen}
use Rattle.share_source.proofs.choosing.first_positions.Given as goal

abbrev pub invariant-loop-position : goal.invariant-loop-position
invariant-loop-position l = AreChosen l.numbers l.needed l.position l.positions.items
