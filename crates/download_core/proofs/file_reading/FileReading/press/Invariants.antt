use Rattle.std.proofs.Common.{length}
use Rattle.download_core.specs.Reading.{AreReading}
use Rattle.download_core.specs.ReadingSteps.{Continues}
use Rattle.download_core.proofs.file_reading.FileReading.press.Given as goal

abbrev pub invariant-loop-self : goal.invariant-loop-self
invariant-loop-self l = record {
  reading : AreReading l.beginnings l.self;
  continues : Continues l.beginnings l.initial.self l.beginnings l.self;
}

abbrev pub decreases-loop-self : goal.decreases-loop-self
decreases-loop-self l = length l.self.file.live
