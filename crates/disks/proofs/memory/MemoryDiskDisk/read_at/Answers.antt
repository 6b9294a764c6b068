use Rattle.std.proofs.Common.{refl}
use Rattle.disks.proofs.Alone.{alone, does_failed}
use Rattle.disks.proofs.memory.MemoryDiskDisk.read_at.Goals as goal

pub returns-in_err-bytes-clause-gives : goal.returns-in_err-bytes-clause-gives
returns-in_err-bytes-clause-gives c = λ honest. does_failed _ _ c.from_residual.result _ _ c.from_residual.ensures.0 (alone _ _ _ refl)

pub returns-then-not-copy_from-clause-gives : goal.returns-then-not-copy_from-clause-gives
returns-then-not-copy_from-clause-gives c = λ honest. alone _ _ _ refl
