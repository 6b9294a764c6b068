use Rattle.std.proofs.Common.{◌≡◌, ℕ, Contains, take}
use Rattle.download_file.specs.Asked.{IsAskedUp}
use Rattle.download_core.specs.Reading.{AreReading}
use Rattle.download_core.specs.ReadingSteps.{Continues}
use Rattle.download_core.proofs.file_reading.FileReading.ask_all.Given as goal

-- those before this one are asked
abbrev pub invariant-loop-i : goal.invariant-loop-i
invariant-loop-i l = record {
  reading : AreReading l.beginnings l.self;
  live : l.self.file.live ≡ l.initial.self.file.live;
  aside : l.self.file.aside ≡ l.initial.self.file.aside;
  continues : Continues l.initial.beginnings l.initial.self l.beginnings l.self;
  asked_up : (reader : ℕ) → Contains (take l.i l.self.file.live) reader → IsAskedUp l.self.file reader;
  blamed : l.beginnings.holdings.blamed ≡ l.initial.beginnings.holdings.blamed;
  handout : l.self.file.handout ≡ l.initial.self.file.handout;
  table : l.beginnings.holdings.table ≡ l.initial.beginnings.holdings.table;
}
