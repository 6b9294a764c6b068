use Rattle.std.specs.Prelude.{Some}
use Rattle.disks.specs.Folder.{HasBytes}
use Rattle.share_folders.proofs.Closings.{from_stored_if}
use Rattle.share_folders.proofs.files.open_closed.Goals as goal

pub returns-clause-bytes : goal.returns-clause-bytes
returns-clause-bytes g c honest bytes lasting has =
    from_stored_if c.open_finished.result c.in_ok-file.file (λ file. HasBytes (g.D.Disk.folder c.open_finished.new.disk) bytes (Some (g.D.Disk.inode file)))
    c.in_ok-file.ensures (c.open_finished.ensures.bytes honest bytes lasting has)
