use Rattle.std.proofs.Common.{Contains, take, ℕ}
use Rattle.download_core.specs.ReadingSteps.{IsIdle}
use Rattle.download_core.proofs.file_reading.FileReading.first_idle.Given as goal

-- none of those before this one is idle
abbrev pub invariant-loop-reader : goal.invariant-loop-reader
invariant-loop-reader l = (q : ℕ) → Contains (take l.reader-index l.self.file.aside) q → ¬ IsIdle l.self.file q
