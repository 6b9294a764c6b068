use Rattle.share_folders.proofs.Holding.{held_looked}
use Rattle.share_folders.proofs.Told.{noted_told}
use Rattle.share_folders.proofs.kept.DiskStore.list_kept.Goals as goal

pub returns-in_err-look_at_all-clause-still : goal.returns-in_err-look_at_all-clause-still
returns-in_err-look_at_all-clause-still g c honest =
    held_looked g.D.Disk.inode _ _ c.args.self.now.closed.entries c.look_at_all.new.closed.entries c.args.self.now.recent (c.look_at_all.ensures.kept honest) (c.look_at_all.ensures.held honest)

pub returns-clause-still : goal.returns-clause-still
returns-clause-still g c honest =
    held_looked g.D.Disk.inode _ _ c.args.self.now.closed.entries c.look_at_all.new.closed.entries c.args.self.now.recent (c.look_at_all.ensures.kept honest) (c.look_at_all.ensures.held honest)

pub returns-clause-each : goal.returns-clause-each
returns-clause-each g c honest key digest bytes share under =
    noted_told c.held_under-2.result c.args.index.now c.look_at_all.new.closed.entries key digest bytes c.held_under-2.ensures.value (c.look_at_all.ensures.kept honest key digest bytes share.kept).noted under
