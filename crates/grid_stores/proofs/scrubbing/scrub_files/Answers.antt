use Rattle.grid_stores.proofs.ScrubLemmas.{more_told, none_told}
use Rattle.grid_stores.proofs.scrubbing.scrub_files.Goals as goal

pub loop-found-init : goal.loop-found-init
loop-found-init g c = none_told c.args.telling.now.json c.args.telling.now.server c.args.counted.now (g.O.Write.contents c.args.out.now)

pub loop-found-preserved : goal.loop-found-preserved
loop-found-preserved g c =
    more_told c.args.telling.now.json c.args.telling.now.server c.args.counted.now c.loop-found.counted c.count.new.self _ _ _ c.in-Some.found c.loop-found.invariant
    (rw c.in-Some.is at c.in_ok-found.ensures.seen) c.count.ensures c.in_ok-tell_file.ensures
