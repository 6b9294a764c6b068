use Rattle.disks.proofs.Held.{found_held}
use Rattle.disks.proofs.Read.{finds}
use Rattle.disks.proofs.reading.find_finished.Goals as goal

pub returns-clause-long : goal.returns-clause-long
returns-clause-long g c honest bytes lasting has = finds _ c.args.name.now c.find.result _ _ bytes lasting (c.find.ensures.gives honest) has

pub returns-clause-stays : goal.returns-clause-stays
returns-clause-stays g c honest = found_held c.args.name.now c.find.result _ _ (c.find.ensures.gives honest)
