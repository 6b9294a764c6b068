use Rattle.std.proofs.Common.{◌≡◌, rules, true}
use Rattle.carried_operations.proofs.DownloadRuns.{written_first, written_on}
use Rattle.carried_operations.proofs.downloads.carry_download.Goals as goal

pub turns-init : goal.turns-init
turns-init g c =
    written_first g.G.Outside.calls c.args.download c.args.outside.now (g.O.Write.contents c.args.out.now) c.args.from c.requires.begun c.status.ensures.right c.ranges.from.fits c.requires.from_is

pub turns-preserved : goal.turns-preserved
turns-preserved g c =
    let held = g.O.Write.contents in
    let on : c.goes_on.result ≡ true = search rules in
    let turn = c.turn-carried in
    written_on g.G.Outside.calls c.args.download c.args.outside.now (held c.args.out.now) c.requires.begun c.turns.carried c.turns.outside turn.new.outside (held c.turns.out) (held turn.new.out) c.turns.invariant
    (c.goes_on.ensures.runs on).0 turn.result turn.ensures.ok turn.ensures.offset turn.ensures.unwritten
