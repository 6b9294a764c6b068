use Rattle.std.proofs.Common.{List, map, subst}
use Rattle.std.specs.String.{string_bytes}
use Rattle.share_folders.specs.Listed.{AreSettled, AreTaken}
use Rattle.share_folders.proofs.Settling.{settled_before}
use Rattle.share_folders.proofs.listing.list_folder.Goals as goal

pub returns-clause-taken : goal.returns-clause-taken
returns-clause-taken g c =
    subst (λ (ns : List _). AreTaken (map string_bytes ns) c.in_ok-closed.closed.entries) c.as_slice.ensures.value c.in_ok-closed.ensures.taken

pub returns-clause-settled : goal.returns-clause-settled
returns-clause-settled g c honest synced =
    let s = g.D.Disk.folder c.args.disk.now in
    let m = g.D.Disk.folder c.list_names.new.disk in
    let t = g.D.Disk.folder c.take_names.new.disk in
    let settled = subst (λ (ns : List _). AreSettled g.D.Disk.relied (map string_bytes ns) m t) c.as_slice.ensures.value (c.in_ok-closed.ensures.settled honest synced) in
    settled_before (map string_bytes c.in_ok-names.names.items) s m t (c.list_names.ensures.standing (c.take_names.ensures.so_far honest)) settled
