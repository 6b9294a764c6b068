use Rattle.std.proofs.Common.{◌≡◌}
use Rattle.std.specs.Prelude.{◌&&◌}
use Rattle.grid_stores.proofs.ScrubLemmas.{and_first, and_none, next_looked, none_looked}
use Rattle.grid_stores.proofs.scrubbing.scrub_servers.Goals.{then-are_read, else-are_read}
use Rattle.grid_stores.proofs.scrubbing.scrub_servers.Goals as goal

pub loop-server-init : goal.loop-server-init
loop-server-init g c = none_looked c.args.words.now.json c.args.counted.now _ c.requires

pub loop-server-preserved : goal.loop-server-preserved
loop-server-preserved g c =
    let both : c.if-are_read.are_read ≡ (c.loop-server.are_read && c.in_ok-is_read.is_read) = elim c.if-are_read.branch [
      | then-are_read w ↦ and_first _ _ _ w.if-are_read.true w.are_read-is
      | else-are_read w ↦ and_none _ _ _ w.if-are_read.false w.are_read-is
    ] in
    next_looked c.args.words.now.json c.args.servers.now c.loop-server.server-index c.loop-server.are_read c.in_ok-is_read.is_read c.if-are_read.are_read _ _ _ _ _ c.loop-server-test.true both c.loop-server.invariant
    c.in_ok-is_read.ensures
