use Rattle.std.proofs.Common.{◌<◌, length}
use Rattle.std.specs.Prelude.{All}
use Rattle.share_files.specs.Readings.{IsReading}
use Rattle.share_files.proofs.reading.read_all.Given as goal

-- each file was read so far
abbrev pub invariant-loop : goal.invariant-loop
invariant-loop g l = All (IsReading g.F.Read.remaining) l.readings × (0 < length l.buffer)
