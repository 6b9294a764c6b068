use Rattle.std.proofs.Common.{take}
use Rattle.grid_stores.specs.Scrubbing.{AreLooked}
use Rattle.grid_stores.proofs.scrubbing.scrub_servers.Given as goal

-- what was found at the servers so far
abbrev pub invariant-loop-server : goal.invariant-loop-server
invariant-loop-server g l = AreLooked l.fn.words.json (take l.server-index l.fn.servers) l.are_read l.counted (g.O.Write.contents l.fn.out) (g.O.Write.contents l.out)
