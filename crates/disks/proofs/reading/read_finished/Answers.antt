use Rattle.disks.proofs.Held.{read_held}
use Rattle.disks.proofs.Read.{reads}
use Rattle.disks.proofs.reading.read_finished.Goals as goal

pub returns-clause-bytes : goal.returns-clause-bytes
returns-clause-bytes g c honest bytes has = reads _ c.read_at.result _ _ _ _ _ bytes (c.read_at.ensures.gives honest) has

pub returns-clause-stays : goal.returns-clause-stays
returns-clause-stays g c honest = read_held _ _ _ c.read_at.result _ _ (c.read_at.ensures.gives honest)
