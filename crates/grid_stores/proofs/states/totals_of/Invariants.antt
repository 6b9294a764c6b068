use Rattle.std.proofs.Common.{◌≡◌, take}
use Rattle.grid_stores.specs.States.{totals_of}
use Rattle.grid_stores.proofs.states.totals_of.Given as goal

abbrev pub invariant-loop-found : goal.invariant-loop-found
invariant-loop-found l = l.totals ≡ totals_of (take l.found-index l.servers)
