use Rattle.std.proofs.Common.{◌≡◌, take}
use Rattle.grid_shares.specs.Ways.{AreCleared}
use Rattle.grid_shares.proofs.mending.clear_servers.Given as goal

-- what became of the servers so far, and those that are held stay as they are
abbrev pub invariant-loop-server : goal.invariant-loop-server
invariant-loop-server g l = record {
  cleared : AreCleared l.goal l.placing.mend l.reading (take l.server-index l.fn.placing.servers.now) l.clearance.stuck.items l.clearance.is_still;
  held : l.held ≡ l.fn.held;
}
