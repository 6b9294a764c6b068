use Rattle.std.proofs.Common.{◌≡◌, ◌+◌, length, ℕ, ◌⊎◌, Option}
use Rattle.download_file.specs.State.{IsHeard}
use Rattle.download_core.specs.Reading.{AreAwaited, AreKept, IsGone, IsReadNow}
use Rattle.download_core.specs.ReadingSteps.{Continues}
use Rattle.download_core.proofs.file_reading.FileReading.end_gone.Given as goal

abbrev pub invariant-loop-reader : goal.invariant-loop-reader
invariant-loop-reader l = record {
  kept : AreKept l.beginnings l.self;
  live : (reader : ℕ) → IsHeard l.self.file reader → IsReadNow l.beginnings l.self reader ⊎ IsGone l.beginnings l.self reader;
  continues : Continues l.beginnings l.initial.self l.beginnings l.self;
  awaits : (but : Option ℕ) → AreAwaited but l.beginnings l.initial.self → AreAwaited but l.beginnings l.self;
  holdings : l.self.holdings ≡ l.initial.self.holdings;
  handout : l.self.file.handout ≡ l.initial.self.file.handout;
}

abbrev pub decreases-loop-reader : goal.decreases-loop-reader
decreases-loop-reader l = length l.self.file.live + length l.self.file.aside
