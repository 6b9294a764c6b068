use Rattle.std.proofs.Common.{take}
use Rattle.grid_repairs.proofs.Chosen.{Chosen}
use Rattle.grid_repairs.proofs.choosing.candidate_places.Given as goal

abbrev pub invariant-verdicts : goal.invariant-verdicts
invariant-verdicts l = Chosen (take l.found-index l.verdicts) l.places.items
