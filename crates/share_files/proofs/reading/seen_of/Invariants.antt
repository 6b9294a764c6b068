use Rattle.std.proofs.Common.{◌≡◌, length}
use Rattle.std.specs.Prelude.{All}
use Rattle.share_files.specs.Readings.{IsReading}
use Rattle.share_files.proofs.reading.seen_of.Given as goal

-- nothing was seen of so many files
abbrev pub invariant-loop : goal.invariant-loop
invariant-loop g l = All (IsReading g.F.Read.remaining) l.readings.items × (length l.seen.items ≡ l.counter)

-- each file was read so far
abbrev pub invariant-loop-reading : goal.invariant-loop-reading
invariant-loop-reading g l = All (IsReading g.F.Read.remaining) l.readings.items × (length l.seen.items ≡ l.fn.count)

abbrev pub decreases-loop-reading : goal.decreases-loop-reading
decreases-loop-reading g l = length l.readings.items
