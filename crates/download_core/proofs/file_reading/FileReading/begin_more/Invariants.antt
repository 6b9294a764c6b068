use Rattle.std.proofs.Common.{◌≡◌, ◌-◌, length}
use Rattle.download_core.specs.Reading.{AreReading}
use Rattle.download_core.specs.ReadingSteps.{Continues}
use Rattle.download_core.proofs.file_reading.FileReading.begin_more.Given as goal

abbrev pub invariant-loop-self : goal.invariant-loop-self
invariant-loop-self l = record {
  reading : AreReading l.beginnings l.self;
  handout : l.self.file.handout ≡ l.initial.self.file.handout;
  blamed : l.beginnings.holdings.blamed ≡ l.initial.beginnings.holdings.blamed;
  held : l.beginnings.holdings.table.holdings ≡ l.initial.beginnings.holdings.table.holdings;
  continues : Continues l.initial.beginnings l.initial.self l.beginnings l.self;
}

abbrev pub decreases-loop-self : goal.decreases-loop-self
decreases-loop-self l = l.self.file.handout.geometry.needed - length l.self.file.live
