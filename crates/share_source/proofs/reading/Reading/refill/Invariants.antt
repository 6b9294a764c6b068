use Rattle.std.proofs.Common.{◌≡◌, length, take}
use Rattle.share_source.specs.Candidates.{AreReadOn}
use Rattle.share_source.specs.Reading.{AreLeft, IsReadingOf}
use Rattle.share_source.proofs.reading.Reading.refill.Given as goal

abbrev pub invariant-loop-index : goal.invariant-loop-index
invariant-loop-index g l = record {
  reading : IsReadingOf l.candidates.numbers l.self;
  geometry : l.self.geometry ≡ l.fn.self.geometry;
  count : length l.self.positions.items ≡ length l.fn.self.positions.items;
  read_on : AreReadOn l.fn.self.positions.items l.candidates.struck l.self.positions.items;
  left : AreLeft l.candidates.struck (take l.index l.self.positions.items);
}
