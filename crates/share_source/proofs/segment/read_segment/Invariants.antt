use Rattle.std.proofs.Common.{◌≡◌, List}
use Rattle.share_source.specs.Candidates.{AreSharesRead, AreReadOn, ShareRead}
use Rattle.share_source.specs.Reading.{IsReadingOf, unstruck_count}
use Rattle.share_source.proofs.segment.read_segment.Given as goal

abbrev pub invariant-loop-candidates : goal.invariant-loop-candidates
invariant-loop-candidates g l = record {
  reading : IsReadingOf l.candidates.numbers l.reading;
  geometry : l.reading.geometry ≡ l.fn.reading.geometry;
  ueb : l.candidates.ueb ≡ l.fn.candidates.ueb;
  numbers : l.candidates.numbers ≡ l.fn.candidates.numbers;
  read_on : AreReadOn l.fn.reading.positions.items l.candidates.struck l.reading.positions.items;
  asked : (reads : List ShareRead) × AreSharesRead g.B.ShareBytes.gives g.B.ShareBytes.fails l.place l.fn.candidates reads l.candidates;
}

abbrev pub decreases-loop-candidates : goal.decreases-loop-candidates
decreases-loop-candidates g l = unstruck_count l.candidates.struck
