use Rattle.std.proofs.Common.{take}
use Rattle.disks.specs.Replay.{replay, IsUnused}
use Rattle.disks.proofs.memory.is_used_in.Given as goal

abbrev pub invariant-loop-event : goal.invariant-loop-event
invariant-loop-event l = IsUnused l.number (replay (take l.event-index l.events))
