use Rattle.std.proofs.Common.{map}
use Rattle.std.specs.String.{string_bytes}
use Rattle.share_folders.specs.Listed.{AreSettled}
use Rattle.share_folders.proofs.Holding.{on_ok}
use Rattle.share_folders.proofs.Settling.{settled_later}
use Rattle.share_folders.proofs.listing.take_names.Goals as goal

pub returns-clause-settled : goal.returns-clause-settled
returns-clause-settled g c honest synced =
    let names = map string_bytes c.args.names.now in
    let s = g.D.Disk.folder c.args.disk.now in
    let m = g.D.Disk.folder c.settle_names.new.disk in
    let t = g.D.Disk.folder c.note_names.new.disk in
    on_ok c.note_names.result (AreSettled g.D.Disk.relied names s t)
    (settled_later names s m t (c.in_ok-settle_names.ensures.settled (c.note_names.ensures.so_far honest) synced) (c.note_names.ensures.held honest))
