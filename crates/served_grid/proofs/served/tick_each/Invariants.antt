use Rattle.std.proofs.Common.{◌≡◌, ◌++◌, map, take, drop}
use Rattle.std.specs.Prelude.{option_map}
use Rattle.served_grid.specs.Remotes.{ticked_remote}
use Rattle.served_grid.proofs.served.tick_each.Given as goal

-- those before this one took note
abbrev pub invariant-loop-position : goal.invariant-loop-position
invariant-loop-position g l = l.position-items ≡ map (option_map ticked_remote) (take l.position-index l.fn.remotes.items) ++ drop l.position-index l.fn.remotes.items
