use Rattle.std.proofs.Common.{refl}
use Rattle.disks.proofs.Alone.{alone}
use Rattle.disks.proofs.memory.MemoryDiskDisk.open_folder.Goals as goal

pub returns-clause-gives : goal.returns-clause-gives
returns-clause-gives c = λ honest. alone _ _ _ refl
