use Rattle.std.proofs.Common.{◌≡◌, length, Some}
use Rattle.download_file.specs.State.{IsHeard, waiting_at}
use Rattle.download_core.specs.Reading.{AreReadingBut}
use Rattle.download_shares.specs.Causes.{AddsBlames}
use Rattle.download_core.specs.ReadingCauses.{IsPartFault}
use Rattle.download_core.specs.ReadingSteps.{Continues}
use Rattle.download_core.proofs.file_reading.FileReading.take.Given as goal

abbrev pub invariant-loop-position : goal.invariant-loop-position
invariant-loop-position l = record {
  reading : AreReadingBut (Some l.reader) l.beginnings l.self;
  live : IsHeard l.self.file l.reader;
  requests : l.beginnings.holdings.requests ≡ l.initial.beginnings.holdings.requests;
  causes : AddsBlames (IsPartFault l.initial.beginnings.holdings.requests.entries l.self.file) l.initial.beginnings.holdings.blamed l.beginnings.holdings.blamed;
  continues : Continues l.initial.beginnings l.initial.self l.beginnings l.self;
}

abbrev pub decreases-loop-position : goal.decreases-loop-position
decreases-loop-position l = length (waiting_at l.self.file l.reader)
