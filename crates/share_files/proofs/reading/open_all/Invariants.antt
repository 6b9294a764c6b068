use Rattle.std.specs.Prelude.{All}
use Rattle.share_files.specs.Readings.{IsReading}
use Rattle.share_files.proofs.reading.open_all.Given as goal

-- nothing was read of the files that are open
abbrev pub invariant-loop-position : goal.invariant-loop-position
invariant-loop-position g l = All (IsReading g.R.File.Read.remaining) l.readings.items
