use Rattle.std.proofs.Common.{◌≡◌, length}
use Rattle.std.specs.Prelude.{All}
use Rattle.share_files.specs.Readings.{IsReading}
use Rattle.share_files.proofs.reading.read_pieces.Given as goal

-- each file was read so far
abbrev pub invariant-loop-place : goal.invariant-loop-place
invariant-loop-place g l = All (IsReading g.F.Read.remaining) l.readings × (length l.readings ≡ l.place-end) × (length l.buffer ≡ length l.fn.buffer)
