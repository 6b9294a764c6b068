use Rattle.std.proofs.Common.{◌≡◌, take}
use Rattle.grid_repairs.specs.Remaking.{read_places}
use Rattle.grid_repairs.proofs.remaking.read_places.Given as goal

abbrev pub invariant-loop-position : goal.invariant-loop-position
invariant-loop-position l = l.read.items ≡ read_places l.places (take l.position-index l.positions)
