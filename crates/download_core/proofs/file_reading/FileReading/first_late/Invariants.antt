use Rattle.std.proofs.Common.{Contains, take, ℕ}
use Rattle.download_core.specs.ReadingSteps.{IsLate}
use Rattle.download_core.proofs.file_reading.FileReading.first_late.Given as goal

-- none of those before this one is late
abbrev pub invariant-loop-reader : goal.invariant-loop-reader
invariant-loop-reader l = (q : ℕ) → Contains (take l.reader-index l.self.file.live) q → ¬ IsLate l.beginnings.holdings.requests.entries l.self.file q
