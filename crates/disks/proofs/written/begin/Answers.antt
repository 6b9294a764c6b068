use Rattle.disks.proofs.Sparing.{make_passes}
use Rattle.disks.proofs.Writing.{begun_so, begun_spares}
use Rattle.disks.proofs.written.begin.Goals as goal

pub returns-clause-begun : goal.returns-clause-begun
returns-clause-begun g c honest = begun_so _ g.D.Disk.inode c.args.own.now c.create.result _ _ (c.create.ensures.gives honest)

pub returns-clause-spared : goal.returns-clause-spared
returns-clause-spared g c honest = begun_spares g.D.Disk.inode c.args.own.now c.create.result _ _ (c.create.ensures.gives honest)

pub returns-clause-any_moment : goal.returns-clause-any_moment
returns-clause-any_moment g c honest = make_passes c.args.own.now _ _ _ (c.create.ensures.passes honest)
