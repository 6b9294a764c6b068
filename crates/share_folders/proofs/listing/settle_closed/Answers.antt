use Rattle.std.proofs.Common.{map}
use Rattle.std.specs.String.{string_bytes}
use Rattle.share_folders.specs.Listed.{AreSettled}
use Rattle.share_folders.proofs.Closings.{as_ok}
use Rattle.share_folders.proofs.Settling.{settled_by}
use Rattle.share_folders.proofs.listing.settle_closed.Goals as goal

pub returns-clause-settled : goal.returns-clause-settled
returns-clause-settled g c honest =
    let names = map string_bytes c.args.names.now in
    let s = g.D.Disk.folder c.args.disk.now in
    let t = g.D.Disk.folder c.sync_names.new.disk in
    as_ok c.sync_names.result c.as_stored.result (AreSettled g.D.Disk.relied names s t) c.as_stored.ensures (settled_by c.sync_names.result names s t (c.sync_names.ensures.durable honest))
