use Rattle.disks.proofs.Held.{opened_held}
use Rattle.disks.proofs.Read.{opens}
use Rattle.disks.proofs.reading.open_finished.Goals as goal

pub returns-clause-bytes : goal.returns-clause-bytes
returns-clause-bytes g c honest bytes lasting has =
    opens _ g.D.Disk.inode c.args.name.now c.open.result _ _ bytes lasting (c.open.ensures.gives honest) has

pub returns-clause-stays : goal.returns-clause-stays
returns-clause-stays g c honest = opened_held g.D.Disk.inode c.args.name.now c.open.result _ _ (c.open.ensures.gives honest)
