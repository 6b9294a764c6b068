use Rattle.download_shares.specs.Causes.{AddsBlames}
use Rattle.download_core.specs.ReadingCauses.{IsBlockFault}
use Rattle.download_core.specs.Reading.{AreReading}
use Rattle.download_core.specs.ReadingSteps.{Continues, work}
use Rattle.download_core.proofs.file_reading.FileReading.settle.Given as goal

abbrev pub invariant-loop-self : goal.invariant-loop-self
invariant-loop-self l = record {
  reading : AreReading l.beginnings l.self;
  causes : AddsBlames (IsBlockFault l.beginnings.holdings.requests.entries l.self.file) l.initial.beginnings.holdings.blamed l.beginnings.holdings.blamed;
  continues : Continues l.initial.beginnings l.initial.self l.beginnings l.self;
}

abbrev pub decreases-loop-self : goal.decreases-loop-self
decreases-loop-self l = work l.beginnings l.self
