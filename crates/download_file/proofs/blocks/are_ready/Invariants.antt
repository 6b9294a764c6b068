use Rattle.std.proofs.Common.{take}
use Rattle.download_file.specs.Steps.{AreReady}
use Rattle.download_file.proofs.blocks.are_ready.Given as goal

abbrev pub invariant-loop-position : goal.invariant-loop-position
invariant-loop-position l = AreReady l.readers (take l.position-index l.positions) l.number
